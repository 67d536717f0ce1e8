use Rattle.std.proofs.Common.{◌≡◌, ◌++◌, length}
use Rattle.grain_table.specs.Buckets.{joined}
use Rattle.grain_table.proofs.hashed_map.entries.Entries.take_slot.Given as goal

abbrev pub invariant-empty : goal.invariant-empty
invariant-empty l = l.self-inside.left.now ++ joined l.self-inside.later.now ≡ l.fn.self

abbrev pub decreases-empty : goal.decreases-empty
decreases-empty l = length l.self-inside.later.now
