-- The parts so far, with those between the steps that are left, are all of them; and the steps that are left rise.
use Rattle.std.proofs.Common.{◌≡◌, ◌++◌}
use Rattle.ring_range.specs.Cut.{cut_steps, parts_between}
use Rattle.ring_range.proofs.Steps.{Rises}
use Rattle.ring_range.proofs.range.RingRange.cut_at.Given as goal

abbrev pub invariant-loop-step : goal.invariant-loop-step
invariant-loop-step l = record {
  whole : l.parts.items ++ parts_between l.self l.from l.step-iterator ≡ parts_between l.self 0 (cut_steps l.self l.places);
  rising : Rises l.from l.step-iterator l.self.size;
}
