use Rattle.std.proofs.Common.{◌∙◌, sym, subst}
use Rattle.std.specs.List.Sorted.{IsStrictlySortedBy}
use Rattle.std.specs.Map.{keys_of}
use Rattle.grain_table.specs.Buckets.{IsCutAt}
use Rattle.grain_table.specs.Hashed.{Hashed, hashed_cmp}
use Rattle.grain_table.proofs.InOrder.{sorted_drop, sorted_take}
use Rattle.grain_table.proofs.Searched.{cut_there}
use Rattle.grain_table.proofs.hashed_map.bucket.Bucket.split_off.Goals as goal

pub invariant_of-self-2 : goal.invariant_of-self-2
invariant_of-self-2 c =
    subst (λ (es : Hashed). IsStrictlySortedBy hashed_cmp (keys_of es)) (sym (c.shrink_to_fit.ensures.items ∙ c.in_ok-slots.ensures.items))
    (sorted_take c.first_from-index.result c.self.inside.slots.items c.self.invariant)

pub invariant_of-result : goal.invariant_of-result
invariant_of-result c =
    subst (λ (es : Hashed). IsStrictlySortedBy hashed_cmp (keys_of es)) (sym c.in_ok-slots.ensures.tail)
    (sorted_drop c.first_from-index.result c.self.inside.slots.items c.self.invariant)

pub returns-clause-cut : goal.returns-clause-cut
returns-clause-cut c =
    subst (λ h. IsCutAt h c.args.self.now c.shrink_to_fit.new.self.items c.in_ok-slots.slots.items) c.from.ensures
    (cut_there c.self.inside.slots.items c.deref.result.now c.deref.ensures.value c.from.result c.first_from-index.result
    c.first_from-index.ensures.split c.args.self.now c.shrink_to_fit.new.self.items c.in_ok-slots.slots.items c.self.view_is
    (c.shrink_to_fit.ensures.items ∙ c.in_ok-slots.ensures.items) c.in_ok-slots.ensures.tail)
