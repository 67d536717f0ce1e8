use Rattle.std.proofs.Common.{◌≡◌, ◌+◌, length}
use Rattle.std.specs.Prelude.{filter, not}
use Rattle.ring_range.specs.Range.{holds}
use Rattle.hash_ring.specs.Hash.{hash_grain}
use Rattle.grain_table.proofs.table.count.count_hashed_into.Given as goal

-- those of the rest that are hashed elsewhere are still counted
abbrev pub invariant-entries : goal.invariant-entries
invariant-entries l =
    l.count
    ≡ length (filter (λ e. holds l.range (hash_grain l.hashing e.0.grain)) l.map) + length
    (filter (λ e. not (holds l.range (hash_grain l.hashing e.0.grain))) l.key-iterator)
