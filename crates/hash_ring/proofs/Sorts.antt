-- What a sort leaves of a list whose values all differ: the list with its values put in one by one.
use Rattle.std.proofs.Common.{◌≡◌, ◌⊎◌, inl, inr, ◌+◌, List, [], ◌∷◌, get_or, true, false, refl, sym, ◌∙◌, ap, fold, arith}
use Rattle.std.specs.Cmp.{IsTotalOrder}
use Rattle.std.specs.List.{IsDistinct}
use Rattle.std.specs.List.Sorted.{IsStrictlySortedBy, IsSorted, IsPermutation}
use Rattle.std.specs.BTreeSet.{insert_key}
use Rattle.std.specs.Ordering.{eq_by_cmp, is_eq, is_lt, ordering_reverse}
use Rattle.std.specs.declared.cmp.Ordering.{Ordering}
use Rattle.std.specs.declared.cmp.Ordering.TheVariants.{Less, Equal, Greater}
use Rattle.std.proofs.lemmas.Cmp.{tied_itself, eq_by_cmp_equiv}
use Rattle.std.proofs.lemmas.Map.Lookups.{CmpEqualImpliesEq}
use Rattle.std.proofs.lemmas.Map.Keys.{IsDistinct-from_sorted, IsDistinct-IsPermutation, apart_from_distinct, sorted_from_all_adjacent}
use Rattle.std.proofs.lemmas.List.Sorted.{Contains-permutation, IsPermutation-sym}
use Rattle.hash_ring.proofs.Members.{In, In-from_Contains, Contains-from_In}
use Rattle.hash_ring.proofs.StrictOrder.{Rising, Rising-from_sorted, sorted-from_Rising, Rising-inserted, In-all_inserted, In-from_inserted, same_rising}

module _ {K : Type 0} {R S : K → K → Ordering} (o : IsTotalOrder R) (exact : CmpEqualImpliesEq R) (other : IsTotalOrder S) where
  -- neighbours that do not fall and differ rise
  rises : (a b : K) (r : Ordering) → R a b ≡ r → is_lt (R b a) ≡ false → eq_by_cmp S a b ≡ false → R a b ≡ Less
  rises a b Less h up apart = h
  rises a b Equal h up apart =
      let tied : eq_by_cmp S a a ≡ true = ap is_eq (tied_itself other a) in
      let no : true ≡ false = sym tied ∙ ap (λ x. eq_by_cmp S a x) (exact a b h) ∙ apart in cc
  rises a b Greater h up apart =
      let down : R b a ≡ Less = o.antisymm b a ∙ ap ordering_reverse h in
      let no : true ≡ false = sym (ap is_lt down) ∙ up in cc

  sorted_strictly_from : (first : K) (rest : List K) → IsSorted R (first ∷ rest) → IsDistinct (eq_by_cmp S) (first ∷ rest)
      → IsStrictlySortedBy R (first ∷ rest)
  sorted_strictly_from first rest sorted distinct =
      sorted_from_all_adjacent o (first ∷ rest) first (λ k within.
      rises (get_or (first ∷ rest) k first) (get_or (first ∷ rest) (k + 1) first)
      (R (get_or (first ∷ rest) k first) (get_or (first ∷ rest) (k + 1) first)) refl
      (sorted k first (omega arith) within)
      (apart_from_distinct (eq_by_cmp S) (first ∷ rest) k (k + 1) first distinct (omega arith) within))

  sorted_strictly : (xs : List K) → IsSorted R xs → IsDistinct (eq_by_cmp S) xs → Rising R xs
  sorted_strictly [] sorted distinct = tt
  sorted_strictly (x ∷ xs) sorted distinct = Rising-from_sorted R (x ∷ xs) (sorted_strictly_from x xs sorted distinct)

  -- what was in another strict order is by a sort in this one
  pub Rising-by_sort : (xs ys : List K) → Rising S xs → IsPermutation xs ys → IsSorted R ys → Rising R ys
  Rising-by_sort xs ys rising moved sorted =
      sorted_strictly ys sorted (IsDistinct-IsPermutation (eq_by_cmp S) (eq_by_cmp_equiv other).symm xs ys moved
      (IsDistinct-from_sorted S xs (sorted-from_Rising S xs rising)))

  pub sorted_is_inserted : (xs ys : List K) → Rising S xs → IsPermutation xs ys → IsSorted R ys → ys ≡ fold (insert_key R) [] xs
  sorted_is_inserted xs ys rising moved sorted =
      same_rising o ys (fold (insert_key R) [] xs) (Rising-by_sort xs ys rising moved sorted) (Rising-inserted o xs [] tt)
      (λ z there. In-all_inserted o exact z xs [] (In-from_Contains z xs
      (Contains-permutation ys xs z (IsPermutation-sym xs ys moved) (Contains-from_In z ys there))))
      (λ z there. In-from_Contains z ys (Contains-permutation xs ys z moved
      (Contains-from_In z xs (only z (In-from_inserted o z xs [] there)))))
    where
      only : (z : K) → In z xs ⊎ In z [] → In z xs
      only z (inl there) = there
      only z (inr none) = absurd none
