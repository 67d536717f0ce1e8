-- What is passed of the points left is what is passed of all.
use Rattle.std.proofs.Common.{◌≡◌, length}
use Rattle.range_moves.specs.Walk.{passed}
use Rattle.range_moves.proofs.walk.passed.Given as goal

abbrev pub invariant-loop-point : goal.invariant-loop-point
invariant-loop-point l = passed l.place l.ahead ≡ passed l.place l.fn.ahead

abbrev pub decreases-loop-point : goal.decreases-loop-point
decreases-loop-point l = length l.ahead
