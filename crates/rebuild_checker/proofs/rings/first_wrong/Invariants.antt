use Rattle.std.proofs.Common.{◌≡◌, true, take}
use Rattle.std.specs.List.{list_all}
use Rattle.dump_rules.specs.Verdict.{has_its_ring}
use Rattle.rebuild_checker.specs.Rings.{IsRingOfView}
use Rattle.rebuild_checker.proofs.rings.first_wrong.Given as goal

abbrev pub invariant-loop-node : goal.invariant-loop-node
invariant-loop-node l = record {
  passed : list_all (λ node. has_its_ring l.dump node.now) (take l.node-index l.nodes) ≡ true;
  ring : IsRingOfView l.dump l.ring;
}
