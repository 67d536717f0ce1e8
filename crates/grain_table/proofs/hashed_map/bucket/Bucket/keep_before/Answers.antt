use Rattle.std.proofs.Common.{◌∙◌, ap, sym, subst}
use Rattle.std.specs.List.Sorted.{IsStrictlySortedBy}
use Rattle.std.specs.Map.{keys_of}
use Rattle.std.specs.Prelude.{filter, nat_lt}
use Rattle.grain_table.specs.Hashed.{Hashed, hashed_cmp}
use Rattle.grain_table.proofs.InOrder.{sorted_take}
use Rattle.grain_table.proofs.Searched.{take_lower}
use Rattle.grain_table.proofs.hashed_map.bucket.Bucket.keep_before.Goals as goal

pub invariant_of-self : goal.invariant_of-self
invariant_of-self c =
    subst (λ (es : Hashed). IsStrictlySortedBy hashed_cmp (keys_of es)) (sym (c.shrink_to_fit.ensures.items ∙ c.truncate.ensures.items))
    (sorted_take c.first_from-index.result c.self.inside.slots.items c.self.invariant)

pub returns-clause-entries : goal.returns-clause-entries
returns-clause-entries c =
    c.shrink_to_fit.ensures.items ∙ c.truncate.ensures.items
    ∙ take_lower c.self.inside.slots.items c.deref.result.now c.deref.ensures.value c.args.end c.first_from-index.result
    c.first_from-index.ensures.split
    ∙ ap (λ (es : Hashed). filter (λ e. nat_lt e.0.hash c.args.end) es) c.self.view_is
