use Rattle.std.proofs.Common.{◌≡◌, filter, length}
use Rattle.grain_table.specs.Stretch.{is_between}
use Rattle.grain_table.proofs.hashed_map.stretch.BetweenIterator.next.Given as goal

abbrev pub invariant-slots : goal.invariant-slots
invariant-slots l = filter (λ e. is_between l.self-inside.first l.self-inside.end e.0.hash) l.self-inside.entries ≡ l.fn.self

abbrev pub decreases-slots : goal.decreases-slots
decreases-slots l = length l.self-inside.entries
