use Rattle.std.specs.Prelude.{filter}
use Rattle.hash_ring.specs.Hash.{hash_grain}
use Rattle.ring_range.specs.Range.{holds}
use Rattle.grain_table.specs.Hashed.{Hashed}
use Rattle.grain_table.proofs.Joined.{map_next}
use Rattle.grain_table.proofs.hashed_map.keep.keep_each_hashed_into.Goals as goal

pub buckets-preserved : goal.buckets-preserved
buckets-preserved c =
    map_next (λ (bucket : Hashed). filter (λ e. holds c.args.range.now (hash_grain c.args.hashing e.0.grain)) bucket)
    c.args.buckets.now.items
    c.deref_mut-bucket-items.result.now c.buckets.bucket-items c.deref_mut-bucket-items.ensures.value c.buckets.bucket-index
    c.buckets-test.true c.buckets.invariant c.bucket-item.result c.keep_hashed_into.new.self c.bucket-item.is c.keep_hashed_into.ensures
