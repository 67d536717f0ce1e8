-- What whoever drives a cluster has of the commands that it carried out: what it saw of the journal, and the receipts of the events
-- that they posted.
use Rattle.std.specs.Prelude.{◌≡◌, ◌++◌, ℕ, Bool, true, false, List, [], ◌∷◌, None, length, map}
use mathlib.Core.List.{IsPrefix}
use Rattle.directory_rules.specs.Event.{Event}
use Rattle.directory_rules.specs.Settings.{Settings}
use Rattle.cluster_journal.specs.Entry.{EntryValue}
use Rattle.cluster_journal.specs.Journal.{world_of}
use Rattle.cluster_journal.specs.Posted.{IsReceiptOf, IsRefused}
use Rattle.cluster_journal.specs.declared.entry.Receipt.{Receipt}
use Rattle.silo_threads.specs.Cluster.{ClusterValue}
use Rattle.silo_threads.specs.Followed.{HasFollowed}

-- their numbers
abbrev pub numbers_of : List Receipt → List ℕ
numbers_of receipts = map (λ (receipt : Receipt). receipt.number) receipts

-- more was seen, and more receipts were put to those before: in every journal that goes on from what was seen, that holds of their
-- numbers, and of how many entries were known before and are now
pub record Puts (holds : List EntryValue → (before after : ℕ) → List ℕ → Type 0) (seen now : List EntryValue) (receipts all : List Receipt) : Type 0 where
  pub more : List Receipt
  pub kept : all ≡ receipts ++ more
  pub begins : IsPrefix seen now
  pub its : (journal : List EntryValue) → IsPrefix now journal → holds journal (length seen) (length now) (numbers_of more)

-- an event was posted: it was accepted, as the last entry that is seen now, and its receipt put to the others; or it was refused
abbrev pub IsPosted : Settings → Event → (accepted : Bool) → (seen now : List EntryValue) → (receipts all : List Receipt) → Type 0
IsPosted settings event true seen now receipts all =
    (receipt : Receipt) × IsReceiptOf settings seen now event receipt × (receipt.number ≡ length now) × (all ≡ receipts ++ receipt ∷ [])
IsPosted settings event false seen now receipts all = ((number : ℕ) × IsRefused settings seen now event number) × (all ≡ receipts)

-- all has followed the event that should follow it, and nothing lacks; where it was refused, nothing has
abbrev pub IsFollowed : Settings → Event → (accepted : Bool) → (seen now : List EntryValue) → (before after : ClusterValue) → Type 0
IsFollowed settings event true seen now before after =
    (receipt : Receipt) × IsReceiptOf settings seen now event receipt × HasFollowed (world_of settings now) event receipt before after None
IsFollowed settings event false seen now before after = after ≡ before
