use Rattle.std.proofs.Common.{◌∙◌, ◌+◌, List, add-one, ap, arith, drop, length, subst, suc, sym}
use Rattle.std.specs.List.Sorted.{IsNonDecreasing}
use Rattle.grain_table.specs.Buckets.{joined}
use Rattle.grain_table.specs.Hashed.{Hashed}
use Rattle.grain_table.proofs.Cuts.{rising}
use Rattle.grain_table.proofs.Joined.{length_behind, range_from}
use Rattle.grain_table.proofs.Searched.{passes_before, reaches_from}
use Rattle.grain_table.proofs.Stretches.{all_before_end, end_cut, end_entries, end_fewer}
use Rattle.grain_table.proofs.hashed_map.keep.drop_behind.Goals as goal

pub cuts_before-index-requires : goal.cuts_before-index-requires
cuts_before-index-requires c =
    subst IsNonDecreasing (sym c.deref.ensures.value) (rising c.args.cuts.now.items c.args.buckets.now.items c.requires.cut)

pub returns-then-len-index-clause-entries : goal.returns-then-len-index-clause-entries
returns-then-len-index-clause-entries c =
    let cuts = c.args.cuts.now.items in
    let index = c.cuts_before-index.result in
    all_before_end cuts c.args.buckets.now.items c.requires.cut c.args.end index
    (passes_before cuts c.deref.result.now c.deref.ensures.value c.args.end index c.cuts_before-index.ensures.bound
    c.cuts_before-index.ensures.split) (omega arith)

pub count-behind-requires : goal.count-behind-requires
count-behind-requires c =
    let buckets = c.args.buckets.now.items in
    let index = c.cuts_before-index.result in
    let seen = c.deref-2.result.now in
    let fewer = length_behind buckets (suc index) in
    let same = ap (λ (l : List Hashed). length (joined l)) (range_from seen (index + 1) ∙ (λ i. drop (add-one index i) (c.deref-2.ensures.value i))) in
    omega (arith, same, fewer, c.requires.most)

pub returns-clause-entries : goal.returns-clause-entries
returns-clause-entries c =
    let cuts = c.args.cuts.now.items in
    let end = c.args.end in
    let index = c.cuts_before-index.result in
    let bound = c.cuts_before-index.ensures.bound in
    let split = c.cuts_before-index.ensures.split in
    end_entries cuts c.args.buckets.now.items c.requires.cut end index
    (passes_before cuts c.deref.result.now c.deref.ensures.value end index bound split)
    (reaches_from cuts c.deref.result.now c.deref.ensures.value end index bound split index (omega arith)) (omega arith)
    c.truncate-2.new.self.items c.truncate-2.ensures.items c.index_mut.result.now c.keep_before.new.self c.index_mut.ensures.value
    c.keep_before.ensures.entries

pub returns-clause-cut : goal.returns-clause-cut
returns-clause-cut c =
    let cuts = c.args.cuts.now.items in
    let end = c.args.end in
    let index = c.cuts_before-index.result in
    let bound = c.cuts_before-index.ensures.bound in
    let split = c.cuts_before-index.ensures.split in
    end_cut cuts c.args.buckets.now.items c.requires.cut end index
    (passes_before cuts c.deref.result.now c.deref.ensures.value end index bound split)
    (reaches_from cuts c.deref.result.now c.deref.ensures.value end index bound split index (omega arith)) (omega arith)
    c.truncate-2.new.self.items c.truncate-2.ensures.items c.index_mut.result.now c.keep_before.new.self c.index_mut.ensures.value
    c.keep_before.ensures.entries c.truncate.new.self.items c.truncate.ensures.items

pub overflow_add-result : goal.overflow_add-result
overflow_add-result c =
    let cuts = c.args.cuts.now.items in
    let buckets = c.args.buckets.now.items in
    let end = c.args.end in
    let index = c.cuts_before-index.result in
    let bound = c.cuts_before-index.ensures.bound in
    let split = c.cuts_before-index.ensures.split in
    let seen = c.deref-2.result.now in
    let whole =
    end_fewer cuts buckets c.requires.cut end index (passes_before cuts c.deref.result.now c.deref.ensures.value end index bound split)
    (reaches_from cuts c.deref.result.now c.deref.ensures.value end index bound split index (omega arith)) (omega arith)
    c.truncate-2.new.self.items c.truncate-2.ensures.items c.index_mut.result.now c.keep_before.new.self c.index_mut.ensures.value
    c.keep_before.ensures.entries c.keep_before.result c.count-behind.result c.keep_before.ensures.fewer
    (c.count-behind.ensures
    ∙ ap (λ (l : List Hashed). length (joined l)) (range_from seen (index + 1) ∙ (λ i. drop (add-one index i) (c.deref-2.ensures.value i)))) in
    omega (arith, whole, c.requires.most)

pub returns-clause-fewer : goal.returns-clause-fewer
returns-clause-fewer c =
    let cuts = c.args.cuts.now.items in
    let buckets = c.args.buckets.now.items in
    let end = c.args.end in
    let index = c.cuts_before-index.result in
    let bound = c.cuts_before-index.ensures.bound in
    let split = c.cuts_before-index.ensures.split in
    let seen = c.deref-2.result.now in
    end_fewer cuts buckets c.requires.cut end index (passes_before cuts c.deref.result.now c.deref.ensures.value end index bound split)
    (reaches_from cuts c.deref.result.now c.deref.ensures.value end index bound split index (omega arith)) (omega arith)
    c.truncate-2.new.self.items c.truncate-2.ensures.items c.index_mut.result.now c.keep_before.new.self c.index_mut.ensures.value
    c.keep_before.ensures.entries c.keep_before.result c.count-behind.result c.keep_before.ensures.fewer
    (c.count-behind.ensures
    ∙ ap (λ (l : List Hashed). length (joined l)) (range_from seen (index + 1) ∙ (λ i. drop (add-one index i) (c.deref-2.ensures.value i))))
