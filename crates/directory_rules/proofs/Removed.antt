-- Lists of entries in the order of their keys, after one was taken out.
use Rattle.std.proofs.Common.{◌≡◌, refl, ap, ◌∙◌, List, [], ◌∷◌}
use Rattle.std.specs.Prelude.{cond, Some, None}
use Rattle.std.specs.Cmp.{IsTotalOrder}
use Rattle.std.specs.List.{AllByRecursion}
use Rattle.std.specs.List.Sorted.{IsStrictlySortedBy}
use Rattle.std.specs.Map.{lookup, keys_of, remove_entry}
use Rattle.std.specs.BTreeMap.{is_at}
use Rattle.std.specs.Ordering.{is_eq}
use Rattle.std.specs.declared.cmp.Ordering.{Ordering}
use Rattle.std.specs.declared.cmp.Ordering.TheVariants.{Less, Equal}
use Rattle.texts.proofs.Orderings.{Equal-from}
use Rattle.directory_rules.proofs.Cases.{on_bool}

none_after : {K X : Type 0} (R : K → K → Ordering) (o : IsTotalOrder R) (k first : K) → R k first ≡ Equal → (es : List (K × X))
    → AllByRecursion (λ y. R first y ≡ Less) (keys_of es) → lookup (is_at (R k)) es ≡ None
none_after R o k first same [] above = refl
none_after R o k first same (e ∷ es) above =
    ap (λ r. cond (is_eq r) (Some e.1) (lookup (is_at (R k)) es)) (o.congr k first e.0 same ∙ above.0)
    ∙ none_after R o k first same es above.1

pub lookup_removed : {K X : Type 0} (R : K → K → Ordering) (o : IsTotalOrder R) (k : K) (es : List (K × X))
    → IsStrictlySortedBy R (keys_of es) → lookup (is_at (R k)) (remove_entry (is_at (R k)) es) ≡ None
unfolding IsStrictlySortedBy
lookup_removed R o k [] sorted = refl
lookup_removed R o k (e ∷ es) sorted =
    on_bool (λ b. is_at (R k) e.0 ≡ b → lookup (is_at (R k)) (cond b es (e ∷ remove_entry (is_at (R k)) es)) ≡ None) (is_at (R k) e.0)
    (λ t at. none_after R o k e.0 (Equal-from (R k e.0) at) es sorted.0)
    (λ f at. ap (λ b. cond b (Some e.1) (lookup (is_at (R k)) (remove_entry (is_at (R k)) es))) at ∙ lookup_removed R o k es sorted.1)
    refl
