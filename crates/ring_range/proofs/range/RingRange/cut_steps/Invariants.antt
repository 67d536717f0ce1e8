-- The steps are those of the places so far.
use Rattle.std.proofs.Common.{◌≡◌, take}
use Rattle.ring_range.specs.Cut.{cut_steps}
use Rattle.ring_range.proofs.range.RingRange.cut_steps.Given as goal

abbrev pub invariant-loop-place : goal.invariant-loop-place
invariant-loop-place l = l.steps.keys ≡ cut_steps l.self (take l.place-index l.places)
