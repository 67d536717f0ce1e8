use Rattle.std.proofs.Common.{arith}
use Rattle.grain_table.proofs.Joined.{counted_more}
use Rattle.grain_table.proofs.hashed_map.keep.count.Goals as goal

pub overflow_add-count : goal.overflow_add-count
overflow_add-count c =
    let step =
    counted_more c.args.buckets.now c.buckets.bucket-index c.bucket-item.result c.buckets-test.true c.bucket-item.is c.buckets.count
    c.len-count.result c.buckets.invariant c.len-count.ensures in
    omega (arith, step.1, c.requires)

pub buckets-preserved : goal.buckets-preserved
buckets-preserved c =
    (counted_more c.args.buckets.now c.buckets.bucket-index c.bucket-item.result c.buckets-test.true c.bucket-item.is c.buckets.count
    c.len-count.result c.buckets.invariant c.len-count.ensures).0
