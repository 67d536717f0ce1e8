use Rattle.std.proofs.Common.{◌≡◌, true, take}
use Rattle.std.specs.List.{list_all}
use Rattle.dump_rules.specs.DumpShape.{is_node_of}
use Rattle.dumps.proofs.nodes.each_is_one.Given as goal

abbrev pub invariant-loop-node : goal.invariant-loop-node
invariant-loop-node l = list_all (is_node_of l.dump) (take l.node-index l.nodes) ≡ true
