use Rattle.std.proofs.Common.{subst, sym}
use Rattle.std.specs.List.Sorted.{IsNonDecreasing}
use Rattle.grain_table.proofs.Cuts.{rising}
use Rattle.grain_table.proofs.hashed_map.cut.cut_full.Goals as goal

pub index_under-index-requires : goal.index_under-index-requires
index_under-index-requires c =
    subst IsNonDecreasing (sym c.deref.ensures.value) (rising c.args.cuts.now.items c.args.buckets.now.items c.requires)
