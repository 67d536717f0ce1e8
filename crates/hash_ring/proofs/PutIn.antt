-- A value put in where a binary search says, in a list in strict order.
use Rattle.std.proofs.Common.{◌≡◌, ◌⊎◌, ℕ, zero, suc, ◌+◌, ◌<◌, ◌≤◌, List, [], ◌∷◌, length, get_or, Result, Ok, Err, refl, sym, ◌∙◌, ap, subst, inl, inr, ⊎_elim, arith}
use Rattle.std.specs.List.{insert, HoldsAt, Contains}
use Rattle.std.specs.Result.{is_ok}
use Rattle.std.specs.Bool.{Decides}
use Rattle.std.specs.Cmp.{IsTotalOrder}
use Rattle.std.specs.List.Sorted.{IsStrictlySortedBy, IsPartitionPoint, IsNonDecreasingBy, IsBinarySearchResult, IsSearchInRange}
use Rattle.std.specs.BTreeSet.{insert_key}
use Rattle.std.specs.Ordering.{is_lt, ordering_reverse, ordering_index, match_ordering}
use Rattle.std.specs.declared.cmp.Ordering.{Ordering}
use Rattle.std.specs.declared.cmp.Ordering.TheVariants.{Less, Equal, Greater}
use Rattle.std.proofs.lemmas.Cmp.{tied_itself}
use Rattle.std.proofs.lemmas.List.Sorted.{searchable_from_sorted}
use Rattle.std.proofs.lemmas.Map.Keys.{Less-from_sorted}
use Rattle.std.proofs.lemmas.Map.Lookups.{CmpEqualImpliesEq}
use Rattle.std.proofs.lemmas.Bool.{cases_lt}
use Rattle.hash_ring.proofs.Members.{In, In-from_Contains}
use Rattle.hash_ring.proofs.StrictOrder.{Rising-from_sorted, turned, In-insert_key, In-from_insert_key, Rising-insert_key, same_rising}

module _ {K : Type 0} {R : K → K → Ordering} (o : IsTotalOrder R) (exact : CmpEqualImpliesEq R) where
  -- what a binary search needs
  pub searchable : (xs : List K) (x : K) → IsStrictlySortedBy R xs → IsNonDecreasingBy (λ y. ordering_index (R y x)) xs
  searchable xs x sorted =
      searchable_from_sorted o (λ y. y) xs x (λ k d low within.
      ap is_lt (o.antisymm (get_or xs (k + 1) d) (get_or xs k d)
      ∙ ap ordering_reverse (Less-from_sorted R xs k (k + 1) d sorted (omega arith) within)))

  -- where it misses the value isn't there
  missed : (xs : List K) (x : K) (index : ℕ) → IsPartitionPoint (λ y. R y x ≡ Less) (λ y. R y x ≡ Greater) xs index → Contains xs x → ⊥
  missed xs x index split there = by (cases_lt there.0 index)
    where
      tied : R (get_or xs there.0 x) x ≡ Equal
      tied = ap (λ y. R y x) there.2 ∙ tied_itself o x

      by : (there.0 < index) ⊎ (index ≤ there.0) → ⊥
      by (inl before) = let e : Less ≡ Equal = sym (split.0 there.0 x (omega arith) before) ∙ tied in cc
      by (inr after) = let e : Greater ≡ Equal = sym (split.1 there.0 x after there.1) ∙ tied in cc

  hit : (xs : List K) (x : K) (index : ℕ) → index < length xs → HoldsAt (λ y. R y x ≡ Equal) xs index → Contains xs x
  hit xs x index within at = (index, within, exact (get_or xs index x) x (at x))

  pub Decides-found : (xs : List K) (x : K) (r : Result ℕ ℕ) → IsStrictlySortedBy R xs → IsSearchInRange r (length xs)
      → IsBinarySearchResult (λ y. R y x) xs r → Decides (is_ok r) (Contains xs x)
  Decides-found xs x (Ok index) sorted within position = (λ _. hit xs x index within position, λ _. refl)
  Decides-found xs x (Err index) sorted within position =
      (λ no. cc, λ there. absurd (missed xs x index (position (searchable xs x sorted)) there))

  -- a value that is there stays
  pub put_there : (xs : List K) (x : K) → IsStrictlySortedBy R xs → Contains xs x → xs ≡ insert_key R xs x
  put_there xs x sorted there =
      same_rising o xs (insert_key R xs x) (Rising-from_sorted R xs sorted) (Rising-insert_key o x xs (Rising-from_sorted R xs sorted))
      (λ z in_xs. In-insert_key o x z xs in_xs)
      (λ z in_all. ⊎_elim (λ same. subst (λ w. In w xs) same (In-from_Contains x xs there)) (λ in_xs. in_xs)
      (In-from_insert_key o x z xs in_all))

  -- otherwise it goes where the search ends
  at_index : (xs : List K) (x : K) (index : ℕ) → index ≤ length xs → ((k : ℕ) → k < index → R (get_or xs k x) x ≡ Less)
      → ((k : ℕ) → index ≤ k → k < length xs → R (get_or xs k x) x ≡ Greater)
      → insert xs index x ≡ insert_key R xs x
  at_index [] x zero within before after = refl
  at_index [] x (suc index) within before after = absurd (omega arith)
  at_index (y ∷ ys) x zero within before after =
      let less : R x y ≡ Less = turned o y x (after 0 (omega arith) (omega arith)) in
      sym (ap (λ r. match_ordering r (x ∷ y ∷ ys) (y ∷ ys) (y ∷ insert_key R ys x)) less)
  at_index (y ∷ ys) x (suc index) within before after =
      let greater : R x y ≡ Greater = o.antisymm x y ∙ ap ordering_reverse (before 0 (omega arith)) in
      ap (λ l. y ∷ l) (at_index ys x index (omega arith) (λ k low. before (suc k) (omega arith))
      (λ k low high. after (suc k) (omega arith) (omega arith)))
      ∙ sym (ap (λ r. match_ordering r (x ∷ y ∷ ys) (y ∷ ys) (y ∷ insert_key R ys x)) greater)

  pub put_at : (xs : List K) (x : K) (index : ℕ) → IsStrictlySortedBy R xs → index ≤ length xs
      → (IsNonDecreasingBy (λ y. ordering_index (R y x)) xs → IsPartitionPoint (λ y. R y x ≡ Less) (λ y. R y x ≡ Greater) xs index)
      → insert xs index x ≡ insert_key R xs x
  put_at xs x index sorted within position =
      let split = position (searchable xs x sorted) in
      at_index xs x index within (λ k before. split.0 k x (omega arith) before) (λ k low high. split.1 k x low high)

  pub put_hit : (xs : List K) (x : K) (index : ℕ) → IsStrictlySortedBy R xs → index < length xs → HoldsAt (λ y. R y x ≡ Equal) xs index
      → xs ≡ insert_key R xs x
  put_hit xs x index sorted within at = put_there xs x sorted (hit xs x index within at)
