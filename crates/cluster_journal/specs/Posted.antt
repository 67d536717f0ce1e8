-- What whoever posts events to a journal is told of it. Others post beside, so what is known of a journal is a beginning of it, and
-- only grows.
use Rattle.std.specs.Prelude.{◌≡◌, ℕ, ◌+◌, ◌∷◌, [], ◌++◌, List, Ok, Err, length}
use mathlib.Core.List.{IsPrefix}
use Rattle.directory_rules.specs.Event.{Event}
use Rattle.directory_rules.specs.Happens.{happens}
use Rattle.directory_rules.specs.Settings.{Settings}
use Rattle.directory_rules.specs.World.{accepted_as}
use Rattle.cluster_journal.specs.Entry.{EntryValue}
use Rattle.cluster_journal.specs.Journal.{world_of}
use Rattle.cluster_journal.specs.declared.entry.Receipt.{Receipt}

-- the event was accepted behind all that was known before, by the world of the journal so far, and told what the receipt says; its entry,
-- of the receipt's number, stands there in what is known now
pub record IsReceiptOf (settings : Settings) (before now : List EntryValue) (event : Event) (receipt : Receipt) : Type 0 where
  pub journal : List EntryValue
  pub behind : IsPrefix before journal
  pub stands : IsPrefix (journal ++ receipt.entry ∷ []) now
  pub its : receipt.entry.event ≡ event
  pub number : receipt.number ≡ length journal + 1
  pub told : happens (world_of settings journal) event ≡ Ok (accepted_as (world_of settings (journal ++ receipt.entry ∷ [])) receipt.entry.outcome)

-- what was known before is the beginning of what is known now, whose world refuses the event by that number
pub record IsRefused (settings : Settings) (before now : List EntryValue) (event : Event) (number : ℕ) : Type 0 where
  pub behind : IsPrefix before now
  pub refused : happens (world_of settings now) event ≡ Err number
