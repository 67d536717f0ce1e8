-- Points in order, merged with others: what stands so far, with what is left, is the points with some of the others put in.
use Rattle.std.proofs.Common.{◌≡◌, ◌⊎◌, ℕ, ◌+◌, ◌<◌, ◌≤◌, List, [], ◌∷◌, ◌++◌, length, get_or, take, drop, fold, refl, sym, ◌∙◌, ap, subst, inl, inr, ⊎_elim, arith, append_assoc}
use Rattle.std.specs.List.{All, HoldsAt}
use Rattle.std.specs.List.Sorted.{IsNonDecreasingBy, IsPartitionPoint, IsStrictlySortedBy}
use Rattle.std.proofs.lemmas.List.Elements.{All-contains}
use Rattle.std.specs.Cmp.{IsTotalOrder}
use Rattle.std.specs.BTreeSet.{insert_key}
use Rattle.std.specs.Ordering.{match_ordering, ordering_index, ordering_reverse}
use Rattle.std.specs.declared.cmp.Ordering.{Ordering}
use Rattle.std.specs.declared.cmp.Ordering.TheVariants.{Less, Equal, Greater}
use Rattle.std.proofs.lemmas.List.{at_drop_more, get_or_default, get_or-take, length-take-le, take-append-drop}
use Rattle.std.proofs.lemmas.List.Sums.{fold_more}
use Rattle.std.proofs.lemmas.Map.Keys.{Less-from_sorted}
use Rattle.std.proofs.lemmas.Map.Lookups.{CmpEqualImpliesEq}
use Rattle.hash_ring.specs.declared.point.Point.{Point}
use Rattle.hash_ring.specs.Point.{point_cmp}
use Rattle.hash_ring.specs.Merge.{IsPutBetween}
use Rattle.hash_ring.proofs.Members.{In, Contains-from_In}
use Rattle.hash_ring.proofs.Order.{point_cmp_total, point_cmp_exact}
use Rattle.hash_ring.proofs.PutIn.{searchable, put_at, put_hit}
use Rattle.hash_ring.proofs.StrictOrder.{Rising, Rising-from_sorted, sorted-from_Rising, Rising-inserted, In-start, In-all_inserted, In-from_inserted, same_rising}

module _ {K : Type 0} {R : K → K → Ordering} (o : IsTotalOrder R) where
  -- what is put in after all of these passes them by
  put_past : (xs ys : List K) (k : K) → ((x : K) → In x xs → R x k ≡ Less) → insert_key R (xs ++ ys) k ≡ xs ++ insert_key R ys k
  put_past [] ys k lower = refl
  put_past (x ∷ xs) ys k lower =
      let greater : R k x ≡ Greater = o.antisymm k x ∙ ap ordering_reverse (lower x (inl refl)) in
      ap (λ r. match_ordering r (k ∷ x ∷ xs ++ ys) (x ∷ xs ++ ys) (x ∷ insert_key R (xs ++ ys) k)) greater
      ∙ ap (λ l. x ∷ l) (put_past xs ys k (λ y later. lower y (inr later)))

  -- all that stands so far comes before the others from one on
  abbrev pub Precedes : List K → ℕ → List K → Type 0
  Precedes so_far from others = (x : K) → In x so_far → (m : ℕ) (d : K) → from ≤ m → m < length others → R x (get_or others m d) ≡ Less

  pub one_more_put : (points others so_far rest before after : List K) (i : ℕ) (k : K) → i < length others → k ≡ get_or others i k
      → so_far ++ rest ≡ fold (insert_key R) points (take i others) → Precedes so_far i others → before ++ k ∷ after ≡ insert_key R rest k
      → (so_far ++ (before ++ k ∷ [])) ++ after ≡ fold (insert_key R) points (take (i + 1) others)
  one_more_put points others so_far rest before after i k within is made lower put =
      append_assoc so_far (before ++ k ∷ []) after
      ∙ ap (λ l. so_far ++ l) (append_assoc before (k ∷ []) after ∙ put)
      ∙ sym (put_past so_far rest k (λ x there. subst (λ y. R x y ≡ Less) (sym is) (lower x there i k (omega arith) within)))
      ∙ ap (λ l. insert_key R l k) made
      ∙ sym (fold_more (insert_key R) points others i k within
      ∙ ap (λ y. insert_key R (fold (insert_key R) points (take i others)) y) (sym is))

  -- in either part
  pub In-parts : (x : K) (xs ys : List K) → In x (xs ++ ys) → In x xs ⊎ In x ys
  In-parts x [] ys there = inr there
  In-parts x (y ∷ xs) ys (inl here) = inl (inl here)
  In-parts x (y ∷ xs) ys (inr later) = ⊎_elim (λ one. inl (inr one)) (λ other. inr other) (In-parts x xs ys later)

  pub Precedes-one_more : (others so_far before : List K) (i : ℕ) (k : K) → IsStrictlySortedBy R others → i < length others
      → k ≡ get_or others i k → Precedes so_far i others
      → ((x : K) → In x before → R x k ≡ Less) → Precedes (so_far ++ (before ++ k ∷ [])) (i + 1) others
  Precedes-one_more others so_far before i k sorted within is lower under x there m d from inside =
      ⊎_elim (λ old. lower x old m d (omega arith) inside)
      (λ new. ⊎_elim (λ b. o.trans x k (get_or others m d) (under x b) next) (λ own. last own) (In-parts x before (k ∷ []) new))
      (In-parts x so_far (before ++ k ∷ []) there)
    where
      next : R k (get_or others m d) ≡ Less
      next =
          subst (λ y. R y (get_or others m d) ≡ Less) (get_or_default others i d k within ∙ sym is)
          (Less-from_sorted R others i m d sorted (omega arith) inside)

      last : In x (k ∷ []) → R x (get_or others m d) ≡ Less
      last (inl own) = subst (λ y. R y (get_or others m d) ≡ Less) own next
      last (inr none) = absurd none

  -- the end of what rises rises
  Rising-end : (xs ys : List K) → Rising R (xs ++ ys) → Rising R ys
  Rising-end [] ys rising = rising
  Rising-end (x ∷ xs) ys rising = Rising-end xs ys rising.1

  pub rest_in_order : (points others so_far rest : List K) (i : ℕ) → IsStrictlySortedBy R points
      → so_far ++ rest ≡ fold (insert_key R) points (take i others) → IsStrictlySortedBy R rest
  rest_in_order points others so_far rest i sorted made =
      sorted-from_Rising R rest (Rising-end so_far rest
      (subst (λ l. Rising R l) (sym made) (Rising-inserted o (take i others) points (Rising-from_sorted R points sorted))))

  -- put in one by one or sorted first, all is there in order
  pub sorted_first : CmpEqualImpliesEq R → (points others : List K) → IsStrictlySortedBy R points
      → fold (insert_key R) points (fold (insert_key R) [] others) ≡ fold (insert_key R) points others
  sorted_first exact points others sorted =
      same_rising o (fold (insert_key R) points in_turn) (fold (insert_key R) points others) (Rising-inserted o in_turn points rising)
      (Rising-inserted o others points rising)
      (λ z there. ⊎_elim (λ new. ⊎_elim (λ one. In-all_inserted o exact z others points one) (λ none. absurd none)
      (In-from_inserted o z others [] new)) (λ old. In-start o z others points old) (In-from_inserted o z in_turn points there))
      (λ z there. ⊎_elim (λ new. In-all_inserted o exact z in_turn points (In-all_inserted o exact z others [] new))
      (λ old. In-start o z in_turn points old) (In-from_inserted o z others points there))
    where
      in_turn : List K
      in_turn = fold (insert_key R) [] others

      rising : Rising R points
      rising = Rising-from_sorted R points sorted

  pub sorted_first_from : CmpEqualImpliesEq R → (points others from new : List K) → IsStrictlySortedBy R points → from ≡ points
      → new ≡ fold (insert_key R) [] others
      → fold (insert_key R) from new ≡ fold (insert_key R) points others
  sorted_first_from exact points others from new sorted same_points in_turn =
      ap (λ l. fold (insert_key R) l new) same_points ∙ ap (λ l. fold (insert_key R) points l) in_turn
      ∙ sorted_first exact points others sorted

-- ---- points around one
pub each_lower : (before : List Point) (point : Point) → All (λ p. point_cmp p point ≡ Less) before → (x : Point) → In x before
    → point_cmp x point ≡ Less
each_lower before point lower x there = All-contains (λ p. point_cmp p point ≡ Less) before x lower (Contains-from_In x before there)

pub around_missing : (points : List Point) (point : Point) (index : ℕ) → IsStrictlySortedBy point_cmp points → index ≤ length points
    → (IsNonDecreasingBy (λ y. ordering_index (point_cmp y point)) points
    → IsPartitionPoint (λ y. point_cmp y point ≡ Less) (λ y. point_cmp y point ≡ Greater) points index)
    → IsPutBetween points point (take index points) (drop index points)
around_missing points point index sorted within position =
    let split = position (searchable point_cmp_total point_cmp_exact points point sorted) in
    record {
      lower = λ k d inside.
          let low : k < index = let long = length-take-le index points within in omega arith in
          subst (λ y. point_cmp y point ≡ Less) (sym (get_or-take index points k d low)) (split.0 k d (omega arith) low);
      put = put_at point_cmp_total point_cmp_exact points point index sorted within position;
    }

pub around_found : (points : List Point) (point : Point) (index : ℕ) → IsStrictlySortedBy point_cmp points → index < length points
    → HoldsAt (λ y. point_cmp y point ≡ Equal) points index
    → IsPutBetween points point (take index points) (drop (index + 1) points)
around_found points point index sorted within at = record {
  lower = λ k d inside.
      let low : k < index = let long = length-take-le index points (omega arith) in omega arith in
      subst (λ y. point_cmp (get_or (take index points) k d) y ≡ Less) (same d)
      (subst (λ y. point_cmp y (get_or points index d) ≡ Less) (sym (get_or-take index points k d low))
      (Less-from_sorted point_cmp points k index d sorted low within));
  put =
      ap (λ y. take index points ++ y ∷ drop (index + 1) points) (sym (same point))
      ∙ sym (at_drop_more (λ l. take index points ++ l) points index point within)
      ∙ take-append-drop index points
      ∙ put_hit point_cmp_total point_cmp_exact points point index sorted within at;
}
  where
    same : (d : Point) → get_or points index d ≡ point
    same d = point_cmp_exact (get_or points index d) point (at d)
