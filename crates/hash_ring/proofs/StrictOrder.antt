-- Lists in strict order: what is put in at its place, what two of them with the same members are, and one after another.
use Rattle.std.proofs.Common.{◌≡◌, ◌⊎◌, List, [], ◌∷◌, ◌++◌, Bool, true, false, cond, refl, sym, ◌∙◌, ap, subst, inl, inr, ⊎_elim, fold}
use Rattle.std.specs.Cmp.{IsTotalOrder}
use Rattle.std.specs.List.{AllByRecursion, filter}
use Rattle.std.specs.List.Sorted.{IsStrictlySortedBy}
use Rattle.std.specs.BTreeSet.{insert_key}
use Rattle.std.specs.Ordering.{match_ordering, ordering_reverse}
use Rattle.std.specs.declared.cmp.Ordering.{Ordering}
use Rattle.std.specs.declared.cmp.Ordering.TheVariants.{Less, Equal, Greater}
use Rattle.std.proofs.lemmas.Cmp.{tied_itself}
use Rattle.std.proofs.lemmas.Map.Lookups.{CmpEqualImpliesEq}
use Rattle.hash_ring.proofs.Members.{In, In-from_filter}

-- each value stands before all that follow it
abbrev pub Rising : {K : Type 0} → (K → K → Ordering) → List K → Type 0
Rising R [] = Unit {0}
Rising {K} R (x ∷ xs) = ((y : K) → In y xs → R x y ≡ Less) × Rising R xs

each_of : {K : Type 0} (P : K → Type 0) (xs : List K) → AllByRecursion P xs → (y : K) → In y xs → P y
each_of P [] all y there = absurd there
each_of P (x ∷ xs) all y (inl here) = subst P here all.0
each_of P (x ∷ xs) all y (inr later) = each_of P xs all.1 y later

of_each : {K : Type 0} (P : K → Type 0) (xs : List K) → ((y : K) → In y xs → P y) → AllByRecursion P xs
of_each P [] each = tt
of_each P (x ∷ xs) each = (each x (inl refl), of_each P xs (λ y there. each y (inr there)))

pub Rising-from_sorted : {K : Type 0} (R : K → K → Ordering) (xs : List K) → IsStrictlySortedBy R xs → Rising R xs
unfolding IsStrictlySortedBy
Rising-from_sorted R [] sorted = tt
Rising-from_sorted R (x ∷ xs) sorted = (each_of (λ y. R x y ≡ Less) xs sorted.0, Rising-from_sorted R xs sorted.1)

pub sorted-from_Rising : {K : Type 0} (R : K → K → Ordering) (xs : List K) → Rising R xs → IsStrictlySortedBy R xs
unfolding IsStrictlySortedBy
sorted-from_Rising R [] rising = tt
sorted-from_Rising R (x ∷ xs) rising = (of_each (λ y. R x y ≡ Less) xs rising.0, sorted-from_Rising R xs rising.1)

pub Rising-filter : {K : Type 0} (R : K → K → Ordering) (p : K → Bool) (xs : List K) → Rising R xs → Rising R (filter p xs)
Rising-filter R p [] rising = tt
Rising-filter {K} R p (x ∷ xs) rising = by (p x) (Rising-filter R p xs rising.1)
  where
    by : (b : Bool) → Rising R (filter p xs) → Rising R (cond b (x ∷ filter p xs) (filter p xs))
    by true rest = (λ y there. rising.0 y (In-from_filter p y xs there).0, rest)
    by false rest = rest

pub Rising-append : {K : Type 0} (R : K → K → Ordering) (xs ys : List K) → Rising R xs → Rising R ys
    → ((x y : K) → In x xs → In y ys → R x y ≡ Less) → Rising R (xs ++ ys)
Rising-append R [] ys first second before = second
Rising-append {K} R (x ∷ xs) ys first second before = (head, Rising-append R xs ys first.1 second (λ a b there. before a b (inr there)))
  where
    either : (y : K) (zs : List K) → ((z : K) → In z zs → R x z ≡ Less) → In y (zs ++ ys) → R x y ≡ Less
    either y [] each there = before x y (inl refl) there
    either y (z ∷ zs) each (inl here) = subst (λ w. R x w ≡ Less) here (each z (inl refl))
    either y (z ∷ zs) each (inr later) = either y zs (λ w there. each w (inr there)) later

    head : (y : K) → In y (xs ++ ys) → R x y ≡ Less
    head y there = either y xs first.0 there

module _ {K : Type 0} {R : K → K → Ordering} (o : IsTotalOrder R) where
  pub turned : (a b : K) → R a b ≡ Greater → R b a ≡ Less
  turned a b h = o.antisymm b a ∙ ap ordering_reverse h

  pub never_both : (a b : K) → R a b ≡ Less → R b a ≡ Less → ⊥
  never_both a b h k = let e : Less ≡ Greater = sym k ∙ o.antisymm b a ∙ ap ordering_reverse h in cc

  pub never_itself : (a : K) → R a a ≡ Less → ⊥
  never_itself a h = let e : Less ≡ Equal = sym h ∙ tied_itself o a in cc

  -- ---- a value put in at its place
  pub In-insert_key : (k x : K) (xs : List K) → In x xs → In x (insert_key R xs k)
  In-insert_key k x [] there = absurd there
  In-insert_key k x (y ∷ ys) there = by (R k y) (⊎_elim (λ here. inl here) (λ later. inr (In-insert_key k x ys later)) there)
    where
      by : (r : Ordering) → In x (y ∷ insert_key R ys k) → In x (match_ordering r (k ∷ y ∷ ys) (y ∷ ys) (y ∷ insert_key R ys k))
      by Less pushed = inr there
      by Equal pushed = there
      by Greater pushed = pushed

  pub In-from_insert_key : (k x : K) (xs : List K) → In x (insert_key R xs k) → (k ≡ x) ⊎ In x xs
  In-from_insert_key k x [] (inl here) = inl here
  In-from_insert_key k x [] (inr later) = absurd later
  In-from_insert_key k x (y ∷ ys) there = by (λ later. In-from_insert_key k x ys later) (R k y) there
    where
      by : (In x (insert_key R ys k) → (k ≡ x) ⊎ In x ys) → (r : Ordering)
          → In x (match_ordering r (k ∷ y ∷ ys) (y ∷ ys) (y ∷ insert_key R ys k)) → (k ≡ x) ⊎ In x (y ∷ ys)
      by again Less (inl here) = inl here
      by again Less (inr later) = inr later
      by again Equal found = inr found
      by again Greater (inl here) = inr (inl here)
      by again Greater (inr later) = ⊎_elim (λ e. inl e) (λ l. inr (inr l)) (again later)

  pub In-inserted : CmpEqualImpliesEq R → (k : K) (xs : List K) → In k (insert_key R xs k)
  In-inserted exact k [] = inl refl
  In-inserted exact k (y ∷ ys) = by (In-inserted exact k ys) (R k y) refl
    where
      by : In k (insert_key R ys k) → (r : Ordering) → R k y ≡ r → In k (match_ordering r (k ∷ y ∷ ys) (y ∷ ys) (y ∷ insert_key R ys k))
      by later Less h = inl refl
      by later Equal h = inl (sym (exact k y h))
      by later Greater h = inr later

  pub Rising-insert_key : (k : K) (xs : List K) → Rising R xs → Rising R (insert_key R xs k)
  Rising-insert_key k [] rising = (λ y there. absurd there, tt)
  Rising-insert_key k (y ∷ ys) rising = by (Rising-insert_key k ys rising.1) (R k y) refl
    where
      after_k : R k y ≡ Less → (z : K) → In z (y ∷ ys) → R k z ≡ Less
      after_k h z (inl here) = subst (λ w. R k w ≡ Less) here h
      after_k h z (inr later) = o.trans k y z h (rising.0 z later)

      after_y : R k y ≡ Greater → (z : K) → In z (insert_key R ys k) → R y z ≡ Less
      after_y h z there = ⊎_elim (λ e. subst (λ w. R y w ≡ Less) e (turned k y h)) (λ l. rising.0 z l) (In-from_insert_key k z ys there)

      by : Rising R (insert_key R ys k) → (r : Ordering) → R k y ≡ r
          → Rising R (match_ordering r (k ∷ y ∷ ys) (y ∷ ys) (y ∷ insert_key R ys k))
      by rest Less h = (after_k h, rising)
      by rest Equal h = rising
      by rest Greater h = (after_y h, rest)

  -- ---- all values of a list put in
  pub Rising-inserted : (xs start : List K) → Rising R start → Rising R (fold (insert_key R) start xs)
  Rising-inserted [] start rising = rising
  Rising-inserted (x ∷ xs) start rising = Rising-inserted xs (insert_key R start x) (Rising-insert_key x start rising)

  pub In-start : (x : K) (xs start : List K) → In x start → In x (fold (insert_key R) start xs)
  In-start x [] start there = there
  In-start x (y ∷ ys) start there = In-start x ys (insert_key R start y) (In-insert_key y x start there)

  pub In-all_inserted : CmpEqualImpliesEq R → (x : K) (xs start : List K) → In x xs → In x (fold (insert_key R) start xs)
  In-all_inserted exact x [] start there = absurd there
  In-all_inserted exact x (y ∷ ys) start (inl here) =
      In-start x ys (insert_key R start y) (subst (λ w. In w (insert_key R start y)) here (In-inserted exact y start))
  In-all_inserted exact x (y ∷ ys) start (inr later) = In-all_inserted exact x ys (insert_key R start y) later

  pub In-from_inserted : (x : K) (xs start : List K) → In x (fold (insert_key R) start xs) → In x xs ⊎ In x start
  In-from_inserted x [] start there = inr there
  In-from_inserted x (y ∷ ys) start there = by (In-from_inserted x ys (insert_key R start y) there)
    where
      by : In x ys ⊎ In x (insert_key R start y) → In x (y ∷ ys) ⊎ In x start
      by (inl later) = inl (inr later)
      by (inr found) = ⊎_elim (λ e. inl (inl e)) (λ s. inr s) (In-from_insert_key y x start found)

  -- ---- two lists in order with the same values are one list
  pub same_rising : (xs ys : List K) → Rising R xs → Rising R ys → ((z : K) → In z xs → In z ys) → ((z : K) → In z ys → In z xs) → xs ≡ ys
  same_rising [] [] first second forth back = refl
  same_rising [] (y ∷ ys) first second forth back = absurd (back y (inl refl))
  same_rising (x ∷ xs) [] first second forth back = absurd (forth x (inl refl))
  same_rising (x ∷ xs) (y ∷ ys) first second forth back = joined head (same_rising xs ys first.1 second.1 onward backward)
    where
      joined : x ≡ y → xs ≡ ys → (x ∷ xs) ≡ (y ∷ ys)
      joined e f = λ i. e i ∷ f i

      meet : (y ≡ x) ⊎ In x ys → (x ≡ y) ⊎ In y xs → x ≡ y
      meet (inl e) other = sym e
      meet (inr l) (inl e) = e
      meet (inr l) (inr k) = absurd (never_both x y (first.0 y k) (second.0 x l))

      head : x ≡ y
      head = meet (forth x (inl refl)) (back y (inl refl))

      onward : (z : K) → In z xs → In z ys
      onward z there =
          ⊎_elim (λ e. absurd (never_itself x (subst (λ w. R x w ≡ Less) (sym e ∙ sym head) (first.0 z there)))) (λ l. l)
          (forth z (inr there))

      backward : (z : K) → In z ys → In z xs
      backward z there =
          ⊎_elim (λ e. absurd (never_itself y (subst (λ w. R y w ≡ Less) (sym e ∙ head) (second.0 z there)))) (λ l. l) (back z (inr there))
