-- Worked: a recovery whose reports have one entry each. A silo has three activations firm. Another one joins and owns their hashes, but is
-- dead before it has seen that; so the first one has to recover the range, by its own reports.
use Rattle.std.specs.Prelude.{◌≡◌, List, [], ◌∷◌}
use Rattle.directory_rules.specs.Settings.{Settings}
use Rattle.directory_rules.specs.Event.{Event, Join, Kill, See, Do, Deliver, Lose}
use Rattle.directory_rules.specs.Run.{run_from_start}
use Rattle.directory_rules.specs.declared.own_step.OwnStep.TheVariants.{Wake}
use Rattle.directory_rules.specs.Worked.{silo_a, silo_b, grain_a, grain_b, grain_c}
use Rattle.progress_rules.specs.Plan.{synced, plan}
use Rattle.progress_rules.specs.RoomWorked.{needed_and_sent}
use Rattle.progress_rules.specs.Worked.{few_letters}

abbrev pub small_reports : Settings
small_reports = record few_letters { report_size = 1 }

-- the first query, letter 9, is lost
abbrev pub paged_events : List Event
paged_events =
    Join silo_a (0 ∷ []) ∷ See silo_a 1 ∷ Deliver 1 ∷ Deliver 2 ∷ Do silo_a (Wake grain_a) ∷ Deliver 3 ∷ Deliver 4
    ∷ Do silo_a (Wake grain_b) ∷ Deliver 5 ∷ Deliver 6 ∷ Do silo_a (Wake grain_c) ∷ Deliver 7 ∷ Deliver 8
    ∷ Join silo_b (5 ∷ []) ∷ See silo_a 2 ∷ Kill silo_b ∷ See silo_a 3 ∷ Lose 9 ∷ []

-- Six: three queries, each behind the grain that was told last, and three reports.
abbrev pub PagesReachTheBound : Type 0
PagesReachTheBound = needed_and_sent (synced (run_from_start small_reports paged_events).world) (plan (run_from_start small_reports paged_events).world) ≡ (6 ∷ 6 ∷ [])
