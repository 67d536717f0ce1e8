use Rattle.std.proofs.Common.{◌≡◌, ◌++◌, map}
use Rattle.dump_rules.specs.Dump.{dump_node}
use Rattle.directory_core.proofs.dumping.listed_nodes.Given as goal

abbrev pub invariant-loop-silo : goal.invariant-loop-silo
invariant-loop-silo l = l.nodes.items ++ map (λ e. dump_node e.0 e.1) l.silo-iterator ≡ map (λ e. dump_node e.0 e.1) l.world.nodes
