-- A worked plan that sends just as many letters as are needed at most: a silo that owns the circle and hasn't settled it, and an activation
-- on it that asks; their first letters are lost.
use Rattle.std.specs.Prelude.{◌≡◌, ℕ, ◌-◌, List, [], ◌∷◌, Result, Ok, Err}
use Rattle.directory_rules.specs.Event.{Event, Join, See, Do, Lose}
use Rattle.directory_rules.specs.State.{World}
use Rattle.directory_rules.specs.Run.{run_from_start}
use Rattle.directory_rules.specs.declared.own_step.OwnStep.TheVariants.{Wake}
use Rattle.directory_rules.specs.Worked.{silo_a, grain_a}
use Rattle.progress_rules.specs.Plan.{synced, plan}
use Rattle.progress_rules.specs.Worked.{few_letters}
use Rattle.progress_rules.specs.Room.{letters_needed}

abbrev pub waiting_events : List Event
waiting_events = Join silo_a (0 ∷ []) ∷ See silo_a 1 ∷ Do silo_a (Wake grain_a) ∷ Lose 1 ∷ Lose 2 ∷ []

-- how many letters are needed where all have seen the current view, and how many the plan sends from there; nothing where it is refused
abbrev pub sent_after : World → Result World ℕ → List ℕ
sent_after seen (Ok after) = letters_needed seen ∷ ((after.sent - seen.sent) ∷ [])
sent_after seen (Err number) = []

abbrev pub needed_and_sent : Result World ℕ → Result World ℕ → List ℕ
needed_and_sent (Ok seen) planned = sent_after seen planned
needed_and_sent (Err number) planned = []

-- Six: a request and its retry, a query and its report, and once the range is settled the request and its reply.
abbrev pub BoundIsReached : Type 0
BoundIsReached = needed_and_sent (synced (run_from_start few_letters waiting_events).world) (plan (run_from_start few_letters waiting_events).world) ≡ (6 ∷ 6 ∷ [])
