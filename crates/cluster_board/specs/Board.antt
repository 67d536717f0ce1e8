-- A board, as clauses see it.
use Rattle.std.specs.Prelude.{Bool, List}
use Rattle.directory_rules.specs.State.{World}
use Rattle.cluster_journal.specs.Entry.{EntryValue}

-- the world, its journal, and two flags that no event reads: that silos are to stop, and that one
-- of them gave up
pub record BoardValue : Type 0 where
  pub world : World
  pub journal : List EntryValue
  pub stops : Bool
  pub gave_up : Bool
