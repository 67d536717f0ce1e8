-- A journal: the events that a cluster accepted, in order, each with what it told.
use Rattle.std.specs.Prelude.{◌≡◌, ℕ, ◌-◌, ◌==◌, if◌then◌else◌, List, Option, None, Result, Ok, map, slice_get}
use Rattle.directory_rules.specs.Event.{Event}
use Rattle.directory_rules.specs.declared.outcome.Outcome.{Outcome}
use Rattle.directory_rules.specs.Settings.{Settings}
use Rattle.directory_rules.specs.State.{World}
use Rattle.directory_rules.specs.Run.{run_from_start}
use Rattle.cluster_journal.specs.Entry.{EntryValue}

-- the events
abbrev pub events_of : List EntryValue → List Event
events_of journal = map (λ (entry : EntryValue). entry.event) journal

-- what they told
abbrev pub told_of : List EntryValue → List (Result Outcome ℕ)
told_of journal = map (λ (entry : EntryValue). Ok entry.outcome) journal

-- run from the first world, the events are all accepted, tell just these outcomes, and leave this world
abbrev pub IsJournaled : Settings → List EntryValue → World → Type 0
IsJournaled settings journal world = run_from_start settings (events_of journal) ≡ record { told = told_of journal; world = world }

-- the world that the events leave
abbrev pub world_of : Settings → List EntryValue → World
world_of settings journal = (run_from_start settings (events_of journal)).world

-- the entry of that number, if there is one; they are numbered from 1
abbrev pub entry_at : List EntryValue → (number : ℕ) → Option EntryValue
entry_at journal number = if number == 0 then None else slice_get journal (number - 1)
