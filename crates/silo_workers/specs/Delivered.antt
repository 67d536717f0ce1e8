-- What a worker did: its receipts.
use Rattle.std.specs.Prelude.{◌≡◌, ℕ, [], List, Some, All}
use Rattle.silo_address.specs.Silo.{Silo}
use Rattle.directory_rules.specs.Event.{Deliver}
use Rattle.directory_rules.specs.State.{Letter}
use Rattle.directory_rules.specs.Mail.{letter_of}
use Rattle.directory_rules.specs.Settings.{Settings}
use Rattle.cluster_journal.specs.Entry.{EntryValue}
use Rattle.cluster_journal.specs.Journal.{world_of}
use Rattle.cluster_journal.specs.Posted.{IsReceiptOf}
use Rattle.cluster_journal.specs.declared.entry.Receipt.{Receipt}

-- the receipt is of the delivery of a letter to the silo, and stands in what is known of the journal
pub record IsDeliveryTo (settings : Settings) (silo : Silo) (known : List EntryValue) (receipt : Receipt) : Type 0 where
  pub number : ℕ
  pub letter : Letter
  pub told : IsReceiptOf settings [] known (Deliver number) receipt
  pub mailed : letter_of (world_of settings told.journal) number ≡ Some letter
  pub its : letter.to ≡ silo

-- so are all of them
abbrev pub AreDeliveriesTo : Settings → Silo → (known : List EntryValue) → List Receipt → Type 0
AreDeliveriesTo settings silo known receipts = All (IsDeliveryTo settings silo known) receipts
