use Rattle.std.proofs.Common.{◌≡◌, ◌++◌}
use Rattle.lookup_cache.proofs.hints.copy_of.Given as goal

abbrev pub invariant-loop-grain : goal.invariant-loop-grain
invariant-loop-grain l = record {
  entries : l.grain-iterator.iter ++ l.copy.entries ≡ l.hints.entries;
  capacity : l.copy.cap ≡ l.hints.cap;
}
