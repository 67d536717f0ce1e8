-- What isn't promised: a silo that is nudged before its letters have come and gone never gets anything done, though each letter comes.
-- A nudge gives each request a new number, and a reply to the old one is ignored. One of another grain, or of the ranges, doesn't.
use Rattle.std.specs.Prelude.{◌≡◌, ℕ, zero, suc, ◌+◌, true, List, [], ◌∷◌, ◌++◌}
use Rattle.directory_rules.specs.Event.{Event, Join, See, Do, Deliver}
use Rattle.directory_rules.specs.State.{World}
use Rattle.directory_rules.specs.Run.{run_from_start}
use Rattle.directory_rules.specs.declared.own_step.OwnStep.TheVariants.{Wake, Nudge, NudgeGrain, NudgeRanges}
use Rattle.directory_rules.specs.Worked.{silo_a, silo_b, grain_a, grain_b}
use Rattle.progress_rules.specs.Plan.{plan}
use Rattle.progress_rules.specs.Worked.{few_letters, waits_of, told}

-- two silos see their joins and settle what they own: five letters
abbrev pub opening : List Event
opening =
    Join silo_a (0 ∷ []) ∷ See silo_a 1 ∷ Deliver 1 ∷ Deliver 2 ∷ Join silo_b (8 ∷ []) ∷ See silo_a 2 ∷ See silo_b 2 ∷ Deliver 3 ∷ Deliver 4 ∷ Deliver 5 ∷ []

-- silo a wakes a grain of b's, and is nudged before its request, letter 6, comes to b
abbrev pub asking : List Event
asking = Do silo_a (Wake grain_b) ∷ Do silo_a Nudge ∷ Deliver 6 ∷ []

-- so often it is nudged again, and then the reply comes to it, and the request of the nudge before to b: letters from this one on
abbrev pub nudged_too_soon : (often number : ℕ) → List Event
nudged_too_soon zero number = []
nudged_too_soon (suc often) number = Do silo_a Nudge ∷ Deliver (number + 1) ∷ Deliver number ∷ nudged_too_soon often (number + 2)

abbrev pub hasty : World
hasty = (run_from_start few_letters (opening ++ asking ++ nudged_too_soon 8 7)).world

-- its one request waits still; by the plan it ends
pub record HastyNudgesWait : Type 0 where
  pub waits : waits_of hasty ≡ 1
  pub ends : told (plan hasty) ≡ ((0, true) ∷ [])

-- where it is nudged about another grain before its request comes, and about its ranges before the reply does, the first reply counts
abbrev pub nudged_in_part : List Event
nudged_in_part = Do silo_a (Wake grain_b) ∷ Do silo_a (NudgeGrain grain_a) ∷ Deliver 6 ∷ Do silo_a NudgeRanges ∷ Deliver 7 ∷ []

abbrev pub PartNudgesDoNot : Type 0
PartNudgesDoNot = waits_of (run_from_start few_letters (opening ++ nudged_in_part)).world ≡ 0
