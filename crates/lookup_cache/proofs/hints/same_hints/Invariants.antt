use Rattle.std.proofs.Common.{◌≡◌, ◌↔◌, length}
use Rattle.lookup_cache.proofs.hints.same_hints.Given as goal

abbrev pub invariant-loop-grain : goal.invariant-loop-grain
invariant-loop-grain l = record {
  same : (l.one.entries ≡ l.other.entries) ↔ (l.grain-iterator.a ≡ l.grain-iterator.b);
  long : length l.grain-iterator.a ≡ length l.grain-iterator.b;
}
