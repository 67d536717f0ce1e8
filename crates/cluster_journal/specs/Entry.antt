-- Entries of a journal.
use Rattle.directory_rules.specs.declared.Outcome.{Outcome}
use Rattle.directory_rules.specs.Event.{Event}

-- an accepted event, and what it told
pub record EntryValue : Type 0 where
  pub event : Event
  pub outcome : Outcome
