use Rattle.std.proofs.Common.{◌∙◌, ap, arith, subst, sym}
use Rattle.std.specs.BTreeMap.{is_at}
use Rattle.std.specs.List.Sorted.{IsNonDecreasing}
use Rattle.std.specs.Map.{lookup}
use Rattle.grain_table.specs.Hashed.{hashed_cmp}
use Rattle.grain_table.proofs.AcrossBuckets.{found_in, none_there}
use Rattle.grain_table.proofs.Cuts.{rising}
use Rattle.grain_table.proofs.Searched.{passes_under, reaches_under}
use Rattle.grain_table.proofs.hashed_map.HashedMap.get.Goals as goal

pub index_under-index-requires : goal.index_under-index-requires
index_under-index-requires c =
    subst IsNonDecreasing (sym c.deref.ensures.value) (rising c.self.inside.cuts.items c.self.inside.buckets.items c.self.invariant.cut)

pub returns-then-index-len : goal.returns-then-index-len
returns-then-index-len c =
    let key = c.args.key.now in
    let index = c.index_under-index.result in
    let cuts = c.self.inside.cuts.items in
    let bound = c.index_under-index.ensures.bound in
    let split = c.index_under-index.ensures.split in
    c.get.ensures ∙ ap (lookup (is_at (hashed_cmp key))) c.index.ensures
    ∙ sym
    (found_in cuts c.self.inside.buckets.items c.self.invariant.cut key index
    (passes_under cuts c.deref.result.now c.deref.ensures.value key.hash index bound split)
    (reaches_under cuts c.deref.result.now c.deref.ensures.value key.hash index bound split) c.index.result.now (omega arith))
    ∙ ap (lookup (is_at (hashed_cmp key))) c.self.view_is

pub returns : goal.returns
returns c =
    let key = c.args.key.now in
    let index = c.index_under-index.result in
    let cuts = c.self.inside.cuts.items in
    sym
    (none_there cuts c.self.inside.buckets.items c.self.invariant.cut key index
    (passes_under cuts c.deref.result.now c.deref.ensures.value key.hash index c.index_under-index.ensures.bound
    c.index_under-index.ensures.split) (omega arith))
    ∙ ap (lookup (is_at (hashed_cmp key))) c.self.view_is
