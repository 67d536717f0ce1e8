-- What every world of the code is: one that events have made.
use Rattle.std.specs.Prelude.{◌≡◌, ℕ, List, All, Result, Ok, Err}
use Rattle.directory_rules.specs.Settings.{AreSettings}
use Rattle.directory_rules.specs.Event.{Event, IsEvent}
use Rattle.directory_rules.specs.State.{World, Accepted}
use Rattle.directory_rules.specs.Run.{run_from_start}

-- events, the values of which are in range, have made the world from the first one of its settings
pub record IsWorld (world : World) : Type 0 where
  pub in_range : AreSettings world.settings
  pub events : List Event
  pub named : All IsEvent events
  pub made : world ≡ (run_from_start world.settings events).world

-- what is accepted leaves such a world
abbrev pub LeavesWorld : Result Accepted ℕ → Type 0
LeavesWorld (Ok accepted) = IsWorld accepted.world
LeavesWorld (Err number) = Unit {0}
