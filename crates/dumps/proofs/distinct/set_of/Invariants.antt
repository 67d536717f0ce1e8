use Rattle.std.proofs.Common.{take}
use Rattle.dumps.specs.Sets.{HasItems}
use Rattle.dumps.proofs.distinct.set_of.Given as goal

abbrev pub invariant-loop-item : goal.invariant-loop-item
invariant-loop-item g l = HasItems g.T.Ord.cmp l.set (take l.item-index l.items)
