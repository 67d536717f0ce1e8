-- Receipts beside the journal that they are of.
use Rattle.std.specs.Prelude.{◌≡◌, ◌≢◌, List, Some, All, AllPairs, length}
use Rattle.cluster_journal.specs.Entry.{EntryValue}
use Rattle.cluster_journal.specs.Journal.{entry_at}
use Rattle.cluster_journal.specs.declared.entry.Receipt.{Receipt}

-- the receipt's event and outcome are the journal's at its number
abbrev pub Stands : List EntryValue → Receipt → Type 0
Stands journal receipt = entry_at journal receipt.number ≡ Some receipt.entry

-- two receipts are of two numbers
abbrev pub HaveTwoNumbers : Receipt → Receipt → Type 0
HaveTwoNumbers one other = one.number ≢ other.number

-- each receipt's event and outcome are the journal's at its number, no two have one number, and there are as many as entries
pub record Agree (journal : List EntryValue) (receipts : List Receipt) : Type 0 where
  pub stand : All (Stands journal) receipts
  pub apart : AllPairs HaveTwoNumbers receipts
  pub many : length receipts ≡ length journal
