use Rattle.std.proofs.Common.{◌≡◌}
use Rattle.silo_workers.proofs.worker.work.Given as goal

-- the tally is of the same silo still
abbrev pub invariant-loop : goal.invariant-loop
invariant-loop g l = l.tally.silo ≡ l.initial.tally.silo
