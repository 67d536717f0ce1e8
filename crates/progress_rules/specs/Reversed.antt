-- Why there may have to be so many rounds where letters come in any order. A silo has two registrations outstanding at one owner, which is
-- itself. Where the later comes first, the owner doesn't serve the other any more: that has to be sent under a new number.
use Rattle.std.specs.Prelude.{◌≡◌, ℕ, true, List, [], ◌∷◌}
use Rattle.directory_rules.specs.Event.{Join, See, Do, Deliver, Lose}
use Rattle.directory_rules.specs.State.{World}
use Rattle.directory_rules.specs.Run.{run_from_start}
use Rattle.directory_rules.specs.declared.own_step.OwnStep.TheVariants.{Wake}
use Rattle.directory_rules.specs.Worked.{silo_a, grain_a, grain_b}
use Rattle.progress_rules.specs.Plan.{round}
use Rattle.progress_rules.specs.AnyOrder.{round_in, rounds_in}
use Rattle.progress_rules.specs.Worked.{few_letters, waits_of, told}

-- the silo settles the circle with two letters; then it wakes two grains, and the letters of both are lost
abbrev pub two_asked : World
two_asked = (run_from_start few_letters (Join silo_a (0 ∷ []) ∷ See silo_a 1 ∷ Deliver 1 ∷ Deliver 2 ∷ Do silo_a (Wake grain_a) ∷ Do silo_a (Wake grain_b) ∷ Lose 3 ∷ Lose 4 ∷ [])).world

-- a nudge sends letters 5 and 6; the replies are 7 and 8
abbrev pub reversed : List ℕ
reversed = 6 ∷ 5 ∷ 7 ∷ 8 ∷ []

-- so one of the two waits still after such a round, and none after another; least first one round is enough
pub record ReversedNeedsTwo : Type 0 where
  pub before : waits_of two_asked ≡ 2
  pub one : told (round_in reversed two_asked) ≡ ((1, true) ∷ [])
  pub two : told (rounds_in (reversed ∷ (9 ∷ 10 ∷ []) ∷ []) two_asked) ≡ ((0, true) ∷ [])
  pub least_first : told (round two_asked) ≡ ((0, true) ∷ [])
