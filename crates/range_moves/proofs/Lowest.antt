-- The lowest of some numbers.
use Rattle.std.proofs.Common.{◌≡◌, ℕ, ◌≤◌, ◌⊎◌, min, List, [], ◌∷◌, fold, All, Contains, refl, sym, ◌∙◌, arith, inl, inr}
use Rattle.std.proofs.lemmas.List.Elements.{All-nil, All-cons, Contains-append_right}

low_bounds : (n : ℕ) (ns : List ℕ) → (fold min n ns ≤ n) × All (λ m. fold min n ns ≤ m) ns
low_bounds n [] = (omega arith, All-nil (λ m. n ≤ m))
low_bounds n (m ∷ ns) =
    let rest = low_bounds (min n m) ns in
    let low = rest.0 in
    (omega arith, All-cons (λ k. fold min (min n m) ns ≤ k) m ns (omega arith) rest.1)

pub low_below : (n : ℕ) (ns : List ℕ) → All (λ m. fold min n ns ≤ m) (n ∷ ns)
low_below n ns = let h = low_bounds n ns in All-cons (λ m. fold min n ns ≤ m) n ns h.0 h.1

min_is : (n m : ℕ) → (min n m ≡ n) ⊎ (min n m ≡ m)
min_is n m = grind arith

low_reached : (n : ℕ) (ns : List ℕ) → (fold min n ns ≡ n) ⊎ Contains ns (fold min n ns)
low_reached n [] = inl refl
low_reached n (m ∷ ns) = step (low_reached (min n m) ns) (min_is n m)
  where
    low : ℕ
    low = fold min (min n m) ns

    here : (k : ℕ) → k ≡ m → Contains (m ∷ ns) k
    here k e = (0, omega arith, sym e)

    step : (fold min (min n m) ns ≡ min n m) ⊎ Contains ns (fold min (min n m) ns) → (min n m ≡ n) ⊎ (min n m ≡ m)
        → (fold min (min n m) ns ≡ n) ⊎ Contains (m ∷ ns) (fold min (min n m) ns)
    step (inl e) (inl first) = inl (e ∙ first)
    step (inl e) (inr other) = inr (here (fold min (min n m) ns) (e ∙ other))
    step (inr there) which = inr (Contains-append_right (m ∷ []) ns (fold min (min n m) ns) there)

pub low_there : (n : ℕ) (ns : List ℕ) → Contains (n ∷ ns) (fold min n ns)
low_there n ns =
    elim (low_reached n ns) [ inl e ↦ (0, omega arith, sym e) | inr there ↦ Contains-append_right (n ∷ []) ns (fold min n ns) there ]
