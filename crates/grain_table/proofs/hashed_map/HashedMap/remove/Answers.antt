use Rattle.std.proofs.Common.{◌∙◌, ap, arith, subst, sym}
use Rattle.std.specs.BTreeMap.{is_at}
use Rattle.std.specs.List.Sorted.{IsNonDecreasing}
use Rattle.std.specs.Map.{remove_entry}
use Rattle.grain_table.specs.Hashed.{hashed_cmp}
use Rattle.grain_table.proofs.AcrossBuckets.{none_taken_there}
use Rattle.grain_table.proofs.Cuts.{rising}
use Rattle.grain_table.proofs.Searched.{passes_under, reaches_under}
use Rattle.grain_table.proofs.TakenOut.{taken_are, taken_entries, taken_most}
use Rattle.grain_table.proofs.hashed_map.HashedMap.remove.Goals as goal

pub index_under-index-requires : goal.index_under-index-requires
index_under-index-requires c =
    subst IsNonDecreasing (sym c.deref.ensures.value) (rising c.self.inside.cuts.items c.self.inside.buckets.items c.self.invariant.cut)

pub overflow_sub-self : goal.overflow_sub-self
overflow_sub-self c =
    let cuts = c.self.inside.cuts.items in
    let hash = c.args.key.now.hash in
    let index = c.index_under-index.result in
    let bound = c.index_under-index.ensures.bound in
    let split = c.index_under-index.ensures.split in
    taken_most cuts c.self.inside.buckets.items c.self.inside.len c.self.invariant c.args.key.now index
    (passes_under cuts c.deref.result.now c.deref.ensures.value hash index bound split)
    (reaches_under cuts c.deref.result.now c.deref.ensures.value hash index bound split) (omega arith) c.index_mut.result.now
    c.remove.new.self c.index_mut.ensures.value c.remove.ensures.entries c.remove.result c.remove.ensures.fewer

pub invariant_of-self : goal.invariant_of-self
invariant_of-self c =
    let cuts = c.self.inside.cuts.items in
    let hash = c.args.key.now.hash in
    let index = c.index_under-index.result in
    let bound = c.index_under-index.ensures.bound in
    let split = c.index_under-index.ensures.split in
    taken_are cuts c.self.inside.buckets.items c.self.inside.len c.self.invariant c.args.key.now index
    (passes_under cuts c.deref.result.now c.deref.ensures.value hash index bound split)
    (reaches_under cuts c.deref.result.now c.deref.ensures.value hash index bound split) (omega arith) c.index_mut.result.now
    c.remove.new.self c.index_mut.ensures.value c.remove.ensures.entries c.remove.result c.remove.ensures.fewer

pub returns-then-index-len : goal.returns-then-index-len
returns-then-index-len c =
    let cuts = c.self.inside.cuts.items in
    let hash = c.args.key.now.hash in
    let index = c.index_under-index.result in
    let bound = c.index_under-index.ensures.bound in
    let split = c.index_under-index.ensures.split in
    taken_entries cuts c.self.inside.buckets.items c.self.inside.len c.self.invariant c.args.key.now index
    (passes_under cuts c.deref.result.now c.deref.ensures.value hash index bound split)
    (reaches_under cuts c.deref.result.now c.deref.ensures.value hash index bound split) (omega arith) c.index_mut.result.now
    c.remove.new.self c.index_mut.ensures.value c.remove.ensures.entries
    ∙ ap (remove_entry (is_at (hashed_cmp c.args.key.now))) c.self.view_is

pub returns-else-index-len : goal.returns-else-index-len
returns-else-index-len c =
    let cuts = c.self.inside.cuts.items in
    let index = c.index_under-index.result in
    sym c.self.view_is
    ∙ sym
    (none_taken_there cuts c.self.inside.buckets.items c.self.invariant.cut c.args.key.now index
    (passes_under cuts c.deref.result.now c.deref.ensures.value c.args.key.now.hash index c.index_under-index.ensures.bound
    c.index_under-index.ensures.split) (omega arith))
    ∙ ap (remove_entry (is_at (hashed_cmp c.args.key.now))) c.self.view_is
