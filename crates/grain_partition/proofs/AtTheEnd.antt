-- An entry that is put in behind all others of a map in order.
use Rattle.std.proofs.Common.{◌≡◌, refl, ap, ◌∙◌, List, [], ◌∷◌, ◌++◌}
use Rattle.std.specs.Cmp.{IsTotalOrder}
use Rattle.std.specs.List.{AllByRecursion}
use Rattle.std.specs.List.Sorted.{IsStrictlySortedBy}
use Rattle.std.specs.Map.{keys_of}
use Rattle.std.specs.BTreeMap.{insert_entry}
use Rattle.std.specs.Ordering.{match_ordering, ordering_reverse}
use Rattle.std.specs.declared.cmp.Ordering.{Ordering}
use Rattle.std.specs.declared.cmp.Ordering.TheVariants.{Less, Equal, Greater}
use Rattle.std.proofs.lemmas.Map.Keys.{sorted_head, sorted_tail}

module _ {K X : Type 0} {R : K → K → Ordering} (o : IsTotalOrder R) where
  behind_all : (P : K → Type 0) (es : List (K × X)) (k : K) (x : X) (rest : List (K × X)) → AllByRecursion P (keys_of (es ++ (k, x) ∷ rest))
      → P k
  behind_all P [] k x rest all = all.0
  behind_all P (e ∷ es) k x rest all = behind_all P es k x rest all.1

  pub insert_entry-end : (es : List (K × X)) (k : K) (x v : X) (rest : List (K × X)) → IsStrictlySortedBy R (keys_of (es ++ (k, x) ∷ rest))
      → insert_entry R es k v ≡ es ++ (k, v) ∷ []
  insert_entry-end [] k x v rest s = refl
  insert_entry-end (e ∷ es) k x v rest s =
      by (R k e.0)
      (o.antisymm k e.0 ∙ ap ordering_reverse (behind_all (λ y. R e.0 y ≡ Less) es k x rest
      (sorted_head R e.0 (keys_of (es ++ (k, x) ∷ rest)) s)))
      (insert_entry-end es k x v rest (sorted_tail R e.0 (keys_of (es ++ (k, x) ∷ rest)) s))
    where
      by : (r : Ordering) → r ≡ Greater → insert_entry R es k v ≡ es ++ (k, v) ∷ []
          → match_ordering r ((k, v) ∷ e ∷ es) ((e.0, v) ∷ es) (e ∷ insert_entry R es k v) ≡ e ∷ (es ++ (k, v) ∷ [])
      by Less is later = cc
      by Equal is later = cc
      by Greater is later = ap (λ l. e ∷ l) later
