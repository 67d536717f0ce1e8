-- Events: what may happen to the world, one after the other. What is told of each is data that rule and code share.
use Rattle.std.specs.Prelude.{ℕ, ◌<◌, List, All}
use Rattle.silo_address.specs.Silo.{Silo, IsSilo}
use Rattle.ring_range.specs.Range.{circle}
use Rattle.directory_rules.specs.declared.own_step.OwnStep.{OwnStep}
use Rattle.directory_rules.specs.OwnStep.{IsOwnStep}

-- an event
pub data Event : Type 0 where
  -- membership changes: a silo joins, with its stated places if there are any; one begins to leave; one dies
  Join : Silo → (places : List ℕ) → Event
  Leave : Silo → Event
  Kill : Silo → Event
  -- a silo sees a version
  See : Silo → (version : ℕ) → Event
  -- a silo does what its application asks of it
  Do : Silo → OwnStep → Event
  -- the letter of that number comes, or is lost for good
  Deliver : (number : ℕ) → Event
  Lose : (number : ℕ) → Event

-- what every event keeps: it names silos and grains, and its places are hashes
abbrev pub IsEvent : Event → Type 0
IsEvent (Join silo places) = IsSilo silo × All (λ place. place < circle) places
IsEvent (Leave silo) = IsSilo silo
IsEvent (Kill silo) = IsSilo silo
IsEvent (See silo version) = IsSilo silo
IsEvent (Do silo step) = IsSilo silo × IsOwnStep step
IsEvent (Deliver number) = Unit {0}
IsEvent (Lose number) = Unit {0}
