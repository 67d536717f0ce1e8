-- What workers did, put together.
use Rattle.std.specs.Prelude.{◌≡◌, ◌+◌, ◌++◌, ℕ, List, All, length}
use Rattle.std.specs.List.{Any}
use Rattle.silo_address.specs.Silo.{Silo}
use Rattle.directory_rules.specs.Settings.{Settings}
use Rattle.cluster_journal.specs.Entry.{EntryValue}
use Rattle.cluster_journal.specs.declared.entry.Receipt.{Receipt}
use Rattle.silo_workers.specs.Delivered.{IsDeliveryTo}
use Rattle.silo_workers.specs.Endings.{EndingValue, Ends}

-- the receipt is of a delivery to one of the silos
abbrev pub IsDeliveryToOneOf : Settings → (known : List EntryValue) → List Silo → Receipt → Type 0
IsDeliveryToOneOf settings known silos receipt = Any (λ silo. IsDeliveryTo settings silo known receipt) silos

-- to the receipts more were put, all of deliveries to the silos, and as many as the share counts more
pub record HasMore (settings : Settings) (known : List EntryValue) (silos : List Silo) (receipts all : List Receipt) (amount total : ℕ) : Type 0 where
  pub more : List Receipt
  pub kept : all ≡ receipts ++ more
  pub its : All (IsDeliveryToOneOf settings known silos) more
  pub counted : total ≡ amount + length more

-- so ended the worker of one of the silos
abbrev pub IsEndingOfOneOf : Settings → (known : List EntryValue) → List Silo → EndingValue → Type 0
IsEndingOfOneOf settings known silos ending = Any (λ silo. Ends settings silo known ending) silos

-- so ended the workers of the silos, each of them once
pub record HaveEnded (settings : Settings) (known : List EntryValue) (silos : List Silo) (endings : List EndingValue) : Type 0 where
  pub many : length endings ≡ length silos
  pub its : All (IsEndingOfOneOf settings known silos) endings
