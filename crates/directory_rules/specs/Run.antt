-- A run: a list of events, one after the other. A refused event changes nothing, and the run goes on.
use Rattle.std.specs.Prelude.{ℕ, List, [], ◌∷◌, Result, Ok, Err}
use Rattle.directory_rules.specs.Event.{Event}
use Rattle.directory_rules.specs.declared.outcome.Outcome.{Outcome}
use Rattle.directory_rules.specs.Settings.{Settings}
use Rattle.directory_rules.specs.State.{World, Accepted}
use Rattle.directory_rules.specs.World.{first_world}
use Rattle.directory_rules.specs.Happens.{happens}

-- what each event told, or the number by which it was refused, and the world after all
pub record Ran : Type 0 where
  pub told : List (Result Outcome ℕ)
  pub world : World

-- the world after what happened
abbrev pub world_after : Result Accepted ℕ → World → World
world_after (Ok accepted) world = accepted.world
world_after (Err number) world = world

-- what an event told, or its refusal
abbrev pub told_of : Result Accepted ℕ → Result Outcome ℕ
told_of (Ok accepted) = Ok accepted.outcome
told_of (Err number) = Err number

-- with one thing more told before
abbrev pub telling : Result Outcome ℕ → Ran → Ran
telling told ran = record ran { told = told ∷ ran.told }

-- the events, in their order
unfoldable pub run : World → List Event → Ran
run world [] = record { told = []; world = world }
run world (event ∷ events) = telling (told_of (happens world event)) (run (world_after (happens world event) world) events)

-- a run from the beginning
abbrev pub run_from_start : Settings → List Event → Ran
run_from_start settings events = run (first_world settings) events
