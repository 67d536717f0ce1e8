-- Why a worker gives up.
use Rattle.std.specs.Prelude.{Option, Some, None}
use Rattle.cluster_board.specs.declared.refusal.CommitRefusal.{CommitRefusal}
use Rattle.cluster_board.specs.declared.refusal.CommitRefusal.TheVariants.{StaleWork, JournalFull, MailFull, OutOfMemory}
use Rattle.silo_workers.specs.declared.cause.Cause.{Cause}
use Rattle.silo_workers.specs.declared.cause.Cause.TheVariants as causes

-- the cause that a refused commit gives; none where the work was stale, which is let go
abbrev pub cause_of : CommitRefusal → Option Cause
cause_of StaleWork = None
cause_of JournalFull = Some causes.JournalFull
cause_of MailFull = Some causes.MailFull
cause_of OutOfMemory = Some causes.OutOfMemory
