-- What a worker did so far.
use Rattle.std.specs.Prelude.{◌≡◌, ℕ, List, length}
use Rattle.silo_address.specs.Silo.{Silo}
use Rattle.directory_rules.specs.Settings.{Settings}
use Rattle.cluster_journal.specs.Entry.{EntryValue}
use Rattle.cluster_journal.specs.declared.entry.Receipt.{Receipt}
use Rattle.silo_workers.specs.Delivered.{AreDeliveriesTo}

-- whose it is, what was seen of the journal, how many receipts there are, and for how many in all there is room
pub record TallyValue : Type 0 where
  pub silo : Silo
  pub seen : List EntryValue
  pub many : ℕ
  pub room : ℕ

-- it has one part of the share, which counts the receipts, and these are of deliveries to the silo
pub record IsTally (settings : Settings) (silo : Silo) (seen : List EntryValue) (parts amount : ℕ) (receipts : List Receipt) : Type 0 where
  pub part : parts ≡ 1
  pub counted : amount ≡ length receipts
  pub delivered : AreDeliveriesTo settings silo seen receipts
