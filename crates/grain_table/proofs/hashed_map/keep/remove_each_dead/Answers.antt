use Rattle.std.specs.Prelude.{filter, not}
use Rattle.directory_rules.specs.Members.{is_dead_in}
use Rattle.grain_table.specs.Hashed.{Hashed}
use Rattle.grain_table.proofs.Joined.{map_next}
use Rattle.grain_table.proofs.hashed_map.keep.remove_each_dead.Goals as goal

pub buckets-preserved : goal.buckets-preserved
buckets-preserved c =
    map_next (λ (bucket : Hashed). filter (λ e. not (is_dead_in c.args.view.now e.1.silo)) bucket) c.args.buckets.now.items
    c.deref_mut-bucket-items.result.now c.buckets.bucket-items c.deref_mut-bucket-items.ensures.value c.buckets.bucket-index
    c.buckets-test.true c.buckets.invariant c.bucket-item.result c.remove_dead.new.self c.bucket-item.is c.remove_dead.ensures
