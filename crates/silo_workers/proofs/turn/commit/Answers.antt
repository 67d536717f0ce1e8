use Rattle.std.proofs.Common.{inr, sym}
use Rattle.cluster_journal.specs.Journal.{world_of}
use Rattle.silo_workers.proofs.Deliveries.{stale}
use Rattle.silo_workers.proofs.turn.commit.Goals as goal

-- the commit was refused without a cause
pub returns-in-None-clause-done : goal.returns-in-None-clause-done
returns-in-None-clause-done g c =
    inr (stale (world_of g.L.Charter.settings c.commit-committed.new.self.seen) c.args.prepared c.in-Err.uncommitted.refusal
    c.in-Err.ensures.declined c.in-None.ensures)

-- the commit was refused, and the refusal has a cause
pub returns-in-Some-clause-refused : goal.returns-in-Some-clause-refused
returns-in-Some-clause-refused g c = (c.in-Err.uncommitted.refusal, c.in-Err.ensures.declined, sym c.in-Some.ensures)
