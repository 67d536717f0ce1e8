-- What whoever posts an event to a running cluster is told where it is refused.
use Rattle.std.specs.Prelude.{ℕ, List, Option, Some, None, ⊤}
use Rattle.directory_rules.specs.Event.{Event}
use Rattle.directory_core.specs.Numbers.{IsNumberedUnlessMemory, event_refusal_number}
use Rattle.directory_core.specs.declared.refusal.EventRefusal.{EventRefusal}
use Rattle.directory_rules.specs.Settings.{Settings}
use Rattle.cluster_journal.specs.Entry.{EntryValue}
use Rattle.cluster_journal.specs.Posted.{IsRefused}

-- the rule refused the event by that number, if there is one, by the world of all that is known now
abbrev pub IsRefusedBy : Settings → (before now : List EntryValue) → Event → Option ℕ → Type 0
IsRefusedBy settings before now event (Some number) = IsRefused settings before now event number
IsRefusedBy settings before now event None = ⊤

-- the rule refused the event by the refusal's number; out of memory alone has none
pub record IsRefusalOf (settings : Settings) (before now : List EntryValue) (event : Event) (refusal : EventRefusal) : Type 0 where
  pub by_number : IsRefusedBy settings before now event (event_refusal_number refusal)
  pub numbered : IsNumberedUnlessMemory refusal
