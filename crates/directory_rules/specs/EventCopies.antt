-- Copies of events.
use Rattle.directory_rules.specs.Event.{Event, Join}

-- a copy of the event needs memory: that of a join does, for its places, and no other
abbrev pub NeedsMemory : Event → Type 0
NeedsMemory (Join silo places) = Unit {0}
NeedsMemory _ = ⊥
