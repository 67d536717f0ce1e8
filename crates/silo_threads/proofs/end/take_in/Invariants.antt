use Rattle.std.proofs.Common.{◌≡◌, ◌+◌, false}
use Rattle.std.specs.Vec.{vec_len}
use mathlib.Core.List.{IsPrefix}
use Rattle.silo_threads.specs.Tallied.{HasMore}
use Rattle.silo_threads.proofs.Tallies.{AreLeft, EndedSoFar}
use Rattle.silo_threads.proofs.end.take_in.Given as goal

-- the parts of the workers that are still to be joined are still to come; unless something was lost, all of the others is there
abbrev pub invariant-loop-worker : goal.invariant-loop-worker
invariant-loop-worker g l = record {
  parts : l.all.hand.share.parts + vec_len l.workers ≡ l.initial.all.hand.share.parts + vec_len l.initial.workers;
  left : AreLeft l.initial.workers.items l.workers.items;
  seen : IsPrefix l.initial.all.hand.seen l.all.hand.seen;
  receipts : l.lost ≡ false
      → HasMore g.L.Charter.settings l.all.hand.seen l.initial.workers.items l.initial.all.receipts.items l.all.receipts.items
      l.initial.all.hand.share.amount l.all.hand.share.amount;
  endings : l.lost ≡ false → EndedSoFar g.L.Charter.settings l.all.hand.seen l.initial.workers.items l.workers.items l.all.endings.items;
}

abbrev pub decreases-loop-worker : goal.decreases-loop-worker
decreases-loop-worker g l = goal.left-loop-worker g l
