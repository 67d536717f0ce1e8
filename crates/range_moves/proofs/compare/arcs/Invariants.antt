-- The walk is at a place, and the arcs up to it are made.
use Rattle.std.proofs.Common.{◌+◌, length}
use Rattle.range_moves.proofs.Underway.{IsUnderway}
use Rattle.range_moves.proofs.compare.arcs.Given as goal

abbrev pub invariant-loop-next : goal.invariant-loop-next
invariant-loop-next l =
    IsUnderway l.fn.old.points l.fn.new.points l.first l.start l.old.owner l.new.owner l.old.ahead.now l.new.ahead.now l.arcs.items

abbrev pub decreases-loop-next : goal.decreases-loop-next
decreases-loop-next l = length l.old.ahead.now + length l.new.ahead.now
