use Rattle.std.proofs.Common.{◌≡◌, true, take}
use Rattle.std.specs.BTreeMap.{is_at}
use Rattle.dump_rules.specs.DumpShape.{are_distinct_by}
use Rattle.dumps.specs.Sets.{HasItems}
use Rattle.dumps.proofs.distinct.are_new.Given as goal

abbrev pub invariant-loop-item : goal.invariant-loop-item
invariant-loop-item g l = record {
  apart : are_distinct_by (λ one. is_at (g.T.Ord.cmp one)) (take l.item-index l.items) ≡ true;
  has : HasItems g.T.Ord.cmp l.found (take l.item-index l.items);
}
