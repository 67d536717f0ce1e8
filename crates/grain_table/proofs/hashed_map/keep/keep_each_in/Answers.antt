use Rattle.std.specs.Prelude.{filter}
use Rattle.ring_range.specs.Range.{holds}
use Rattle.grain_table.specs.Hashed.{Hashed}
use Rattle.grain_table.proofs.Joined.{map_next}
use Rattle.grain_table.proofs.hashed_map.keep.keep_each_in.Goals as goal

pub buckets-preserved : goal.buckets-preserved
buckets-preserved c =
    map_next (λ (bucket : Hashed). filter (λ e. holds c.args.range.now e.0.hash) bucket) c.args.buckets.now.items
    c.deref_mut-bucket-items.result.now c.buckets.bucket-items c.deref_mut-bucket-items.ensures.value c.buckets.bucket-index
    c.buckets-test.true c.buckets.invariant c.bucket-item.result c.keep_in.new.self c.bucket-item.is c.keep_in.ensures
