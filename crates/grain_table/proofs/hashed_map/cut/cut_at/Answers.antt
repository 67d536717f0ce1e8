use Rattle.std.proofs.Common.{◌≡◌, ◌∙◌, ◌+◌, add-one, ap, cond, get_or, set, subst, sym}
use Rattle.std.specs.List.{insert}
use Rattle.std.specs.Prelude.{is_ok}
use Rattle.grain_table.specs.Buckets.{AreCut, joined}
use Rattle.grain_table.proofs.StillCut.{cut_both, joined_both}
use Rattle.grain_table.proofs.hashed_map.cut.cut_at.Goals as goal

pub returns-clause-entries : goal.returns-clause-entries
returns-clause-entries c =
    let index = c.args.index in
    let old = c.index_mut.result.now in
    let lower = c.split_off.new.self in
    let upper = c.in_ok-upper.upper in
    let buckets = c.args.buckets.now.items in
    let cut_in_two : c.insert-2.new.self.items ≡ insert (set buckets index lower) (index + 1) upper =
    c.insert-2.ensures.items
    ∙ (λ i. cond (is_ok (c.unwrap-2.ensures i)) (insert (set (c.reserve-2.ensures.items i) index lower) (index + 1) upper)
    (set (c.reserve-2.ensures.items i) index lower)) in
    ap joined cut_in_two
    ∙ joined_both c.in-Some.middle lower upper c.args.cuts.now.items buckets c.requires.cut index (index + 1) (add-one index)
    c.requires.within old (c.index_mut.ensures.value ∙ ap (λ l. get_or l index old) c.reserve-2.ensures.items) c.in_ok-upper.ensures.cut

pub returns-clause-cut : goal.returns-clause-cut
returns-clause-cut c =
    let index = c.args.index in
    let old = c.index_mut.result.now in
    let lower = c.split_off.new.self in
    let upper = c.in_ok-upper.upper in
    let middle = c.in-Some.middle in
    let buckets = c.args.buckets.now.items in
    let cut_in_two : c.insert-2.new.self.items ≡ insert (set buckets index lower) (index + 1) upper =
    c.insert-2.ensures.items
    ∙ (λ i. cond (is_ok (c.unwrap-2.ensures i)) (insert (set (c.reserve-2.ensures.items i) index lower) (index + 1) upper)
    (set (c.reserve-2.ensures.items i) index lower)) in
    let one_more : c.insert.new.self.items ≡ insert c.args.cuts.now.items index middle =
    c.insert.ensures.items
    ∙ (λ i. cond (is_ok (c.unwrap.ensures i)) (insert (c.reserve.ensures.items i) index middle) (c.reserve.ensures.items i)) in
    subst (AreCut c.insert.new.self.items) (sym cut_in_two)
    (subst (λ l. AreCut l (insert (set buckets index lower) (index + 1) upper)) (sym one_more)
    (cut_both middle lower upper c.args.cuts.now.items buckets c.requires.cut index (index + 1) (add-one index) c.requires.within old
    (c.index_mut.ensures.value ∙ ap (λ l. get_or l index old) c.reserve-2.ensures.items) c.in_ok-upper.ensures.cut c.requires.bound
    c.index-2.result.now c.index-2.ensures c.in-Some.ensures))
