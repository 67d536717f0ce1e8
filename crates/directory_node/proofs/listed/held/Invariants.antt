use Rattle.std.proofs.Common.{◌≡◌, map, take}
use Rattle.dump_rules.specs.Dump.{dump_held}
use Rattle.directory_node.proofs.listed.held.Given as goal

abbrev pub invariant-loop-grain : goal.invariant-loop-grain
invariant-loop-grain l = l.listed.items ≡ map (λ e. dump_held l.silo e.0 e.1) (take l.grain-index l.grain-items)
