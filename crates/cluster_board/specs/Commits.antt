-- Prepared work that a board takes, or doesn't.
use Rattle.std.specs.Prelude.{◌≡◌, ℕ, IsOk, Option, Some, None, Err}
use Rattle.directory_rules.specs.Event.{Deliver}
use Rattle.directory_rules.specs.Happens.{happens}
use Rattle.directory_rules.specs.State.{World}
use Rattle.cluster_board.specs.Work.{IsCurrent, Work}
use Rattle.cluster_board.specs.declared.refusal.CommitRefusal.{CommitRefusal}
use Rattle.cluster_board.specs.declared.refusal.CommitRefusal.TheVariants.{StaleWork, JournalFull, MailFull, OutOfMemory}

-- a refusal's number; out of memory has none
abbrev pub commit_refusal_number : CommitRefusal → Option ℕ
commit_refusal_number StaleWork = Some 951
commit_refusal_number JournalFull = Some 908
commit_refusal_number MailFull = Some 909
commit_refusal_number OutOfMemory = None

-- the work is current, and the rule accepts the delivery
abbrev pub IsTaken : World → Work → Type 0
IsTaken world work = IsCurrent world work × IsOk (happens world (Deliver work.number))

-- when each refusal comes: 951 where the work isn't current, else 908 and 909 where the rule refuses the delivery so, and out of
-- memory only where the rule accepts it
abbrev pub Declines : World → Work → CommitRefusal → Type 0
Declines world work StaleWork = ¬ (IsCurrent world work)
Declines world work JournalFull = IsCurrent world work × (happens world (Deliver work.number) ≡ Err 908)
Declines world work MailFull = IsCurrent world work × (happens world (Deliver work.number) ≡ Err 909)
Declines world work OutOfMemory = IsTaken world work
