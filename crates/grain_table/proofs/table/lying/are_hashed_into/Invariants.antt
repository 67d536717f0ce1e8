use Rattle.std.proofs.Common.{◌≡◌}
use Rattle.std.specs.List.{list_all}
use Rattle.ring_range.specs.Range.{holds}
use Rattle.hash_ring.specs.Hash.{hash_grain}
use Rattle.grain_table.proofs.table.lying.are_hashed_into.Given as goal

-- all are exactly where the rest are
abbrev pub invariant-entries : goal.invariant-entries
invariant-entries l =
    list_all (λ e. holds l.range (hash_grain l.hashing e.0.grain)) l.map ≡ list_all (λ e. holds l.range (hash_grain l.hashing e.0.grain))
    l.key-iterator
