-- What every board keeps.
use Rattle.std.specs.Prelude.{◌≡◌, ℕ, List, length}
use Rattle.silo_address.specs.Silo.{Silo}
use Rattle.directory_rules.specs.State.{Node, World}
use Rattle.directory_rules.specs.Settings.{Settings}
use Rattle.cluster_journal.specs.Entry.{EntryValue}
use Rattle.cluster_journal.specs.Journal.{IsJournaled}
use Rattle.cluster_board.specs.Marked.{AreMarks}

-- the journal tells the run that made the world, the log is the journal, the book's total is the journal's length, and each mark is of its silo's node
pub record IsBoard (settings : Settings) (world : World) (journal log : List EntryValue) (total : ℕ) (marks : List (Silo × Node)) : Type 0 where
  pub journaled : IsJournaled settings journal world
  pub logged : log ≡ journal
  pub counted : total ≡ length journal
  pub marked : AreMarks world marks
