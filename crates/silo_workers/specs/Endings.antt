-- How a worker ends.
use Rattle.std.specs.Prelude.{◌≡◌, ℕ, IfSome, IsSome, List, Option, Some, Err, ⊤}
use mathlib.Core.List.{IsPrefix}
use Rattle.silo_address.specs.Silo.{Silo}
use Rattle.directory_rules.specs.Event.{Deliver}
use Rattle.directory_rules.specs.Happens.{happens}
use Rattle.directory_rules.specs.State.{Letter, World}
use Rattle.directory_rules.specs.Mail.{letter_of}
use Rattle.directory_rules.specs.Settings.{Settings}
use Rattle.cluster_board.specs.Commits.{Declines}
use Rattle.cluster_board.specs.Work.{Work}
use Rattle.cluster_board.specs.declared.refusal.CommitRefusal.{CommitRefusal}
use Rattle.cluster_journal.specs.Entry.{EntryValue}
use Rattle.cluster_journal.specs.Journal.{world_of}
use Rattle.silo_workers.specs.Causes.{cause_of}
use Rattle.silo_workers.specs.declared.cause.Cause.{Cause}
use Rattle.silo_workers.specs.declared.cause.Cause.TheVariants.{JournalFull, MailFull, OutOfMemory}

-- for which silo the worker was let go, and why it gave up, if it did; a board knows of both
pub record EndingValue : Type 0 where
  pub silo : Silo
  pub cause : Option Cause

-- it gave up
abbrev pub HasGivenUp : EndingValue → Type 0
HasGivenUp ending = IsSome ending.cause

-- a delivery to the silo was refused by that number, by the world of the journal so far
pub record WasRefused (settings : Settings) (silo : Silo) (known : List EntryValue) (refusal : ℕ) : Type 0 where
  pub journal : List EntryValue
  pub begins : IsPrefix journal known
  pub number : ℕ
  pub letter : Letter
  pub mailed : letter_of (world_of settings journal) number ≡ Some letter
  pub its : letter.to ≡ silo
  pub refused : happens (world_of settings journal) (Deliver number) ≡ Err refusal

-- why it gives up: as many events were accepted as ever may be, or as many letters sent; or memory ran out
abbrev pub GivesUp : Settings → Silo → (known : List EntryValue) → Cause → Type 0
GivesUp settings silo known JournalFull = WasRefused settings silo known 908
GivesUp settings silo known MailFull = WasRefused settings silo known 909
GivesUp settings silo known OutOfMemory = ⊤

-- it was let go for its silo, and gave up by such a cause, if it did
pub record Ends (settings : Settings) (silo : Silo) (known : List EntryValue) (ending : EndingValue) : Type 0 where
  pub its : ending.silo ≡ silo
  pub why : IfSome ending.cause (GivesUp settings silo known)

-- so it does whatever is known
abbrev pub EndsAnywhere : Silo → EndingValue → Type 0
EndsAnywhere silo ending = (settings : Settings) (known : List EntryValue) → Ends settings silo known ending

-- the board declines the work by a refusal that gives that cause
abbrev pub IsGivenBy : World → Work → Cause → Type 0
IsGivenBy world work cause = (refusal : CommitRefusal) × Declines world work refusal × (cause_of refusal ≡ Some cause)
