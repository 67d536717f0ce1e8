use Rattle.std.proofs.Common.{◌≡◌, ◌++◌, drop, filter, map, take}
use Rattle.ring_range.specs.Range.{holds}
use Rattle.grain_table.specs.Hashed.{Hashed}
use Rattle.grain_table.proofs.hashed_map.keep.keep_each_in.Given as goal

-- the buckets so far have what stays
abbrev pub invariant-buckets : goal.invariant-buckets
invariant-buckets l =
    l.bucket-items ≡ map (λ (bucket : Hashed). filter (λ e. holds l.range e.0.hash) bucket) (take l.bucket-index l.fn.buckets.items) ++ drop
    l.bucket-index l.fn.buckets.items
