use Rattle.std.proofs.Common.{◌≡◌, length}
use Rattle.lookup_cache.proofs.Rounds.{IsTurned}
use Rattle.lookup_cache.proofs.hints.drop_dead.Given as goal

abbrev pub invariant-loop : goal.invariant-loop
invariant-loop l = record {
  turned : IsTurned l.view l.counter l.fn.hints.entries l.hints.entries;
  capacity : l.hints.cap ≡ l.fn.hints.cap;
  rounds : l.end ≡ length l.fn.hints.entries;
}
