-- How many of a list's elements pass a test, where they are all in another list.
use Rattle.std.proofs.Common.{arith, ◌≡◌, ◌≢◌, refl, sym, ap, subst, ◌∙◌, ℕ, suc, ◌+◌, ◌≤◌, List, [], ◌∷◌, ◌++◌, inl, inr}
use Rattle.std.specs.Prelude.{Bool, true, cond, count_by, map, Contains, AllPairs}
use Rattle.std.proofs.lemmas.List.Elements.{Contains-append_left, Contains-append_right, Contains-append_cases, All-contains, All-contains_itself}
use Rattle.std.proofs.lemmas.List.Kept.{AllPairs-cons}
use Rattle.std.proofs.lemmas.List.Sums.{sum_by-cons, sum_by-append}
use Rattle.directory_rules.proofs.Cases.{on_bool}
use Rattle.progress_rules.proofs.Answered.{only_one}

module _ {X : Type 0} where
  -- what stands before an element, and after it
  pub record IsSplit (xs : List X) (x : X) : Type 0 where
    pub before : List X
    pub after : List X
    pub is : xs ≡ before ++ x ∷ after

  pub split_at : (xs : List X) (x : X) → Contains xs x → IsSplit xs x
  split_at [] x has = absurd (omega (arith, has.1))
  split_at (y ∷ ys) x has =
      elim (Contains-append_cases (y ∷ []) ys x has) [
        | inl here ↦ record { before = []; after = ys; is = ap (λ z. z ∷ ys) (only_one y x here) }
        | inr there ↦ let rest = split_at ys x there in
            record { before = y ∷ rest.before; after = rest.after; is = ap (λ zs. y ∷ zs) rest.is }
      ]

  -- another element is before it or after it
  beside : (before after : List X) (x y : X) → x ≢ y → Contains (before ++ x ∷ after) y → Contains (before ++ after) y
  beside before after x y apart has =
      elim (Contains-append_cases before (x ∷ after) y has) [
        | inl front ↦ Contains-append_left before after y front
        | inr back ↦ elim (Contains-append_cases (x ∷ []) after y back)
            [ inl here ↦ absurd (apart (only_one x y here)) | inr there ↦ Contains-append_right before after y there ]
      ]

  pub some_in : (x : X) (xs : List X) → Contains (x ∷ xs) x
  some_in x xs = (0, omega arith, refl)

  module _ (p : X → Bool) where
    counted : (x : X) (xs : List X) → count_by p (x ∷ xs) ≡ cond (p x) 1 0 + count_by p xs
    counted x xs = sum_by-cons (λ y. cond {A = ℕ} (p y) 1 0) x xs

    -- of distinct elements that are all in another list, no more pass than there
    pub no_more : (xs ys : List X) → AllPairs (λ x later. x ≢ later) xs → ((x : X) → Contains xs x → Contains ys x)
        → count_by p xs ≤ count_by p ys
    no_more [] ys apart within = omega arith
    no_more (x ∷ xs) ys apart within =
        let split = split_at ys x (within x (some_in x xs)) in
        let rest = no_more xs (split.before ++ split.after) (λ i j d lt below. apart (suc i) (suc j) d (omega (arith, lt)) (omega (arith, below)))
        (λ y has. beside split.before split.after x y
        (All-contains (λ z. x ≢ z) xs y (λ k d below. apart 0 (suc k) d (omega arith) (omega (arith, below))) has)
        (subst (λ zs. Contains zs y) split.is (within y (Contains-append_right (x ∷ []) xs y has)))) in
        let first = counted x xs in
        let all = ap (count_by p) split.is ∙ sum_by-append (λ y. cond {A = ℕ} (p y) 1 0) split.before (x ∷ split.after) in
        let other = sum_by-append (λ y. cond {A = ℕ} (p y) 1 0) split.before split.after in
        let here = counted x split.after in
        omega (arith, rest, first, all, other, here)

    -- and fewer where one that passes is in the other alone
    pub fewer : (xs ys : List X) (x : X) → AllPairs (λ x later. x ≢ later) xs → ((y : X) → Contains xs y → Contains ys y) → Contains ys x
        → p x ≡ true → (Contains xs x → ⊥)
        → count_by p xs + 1 ≤ count_by p ys
    fewer xs ys x apart within there passes not =
        let more = no_more (x ∷ xs) ys
        (AllPairs-cons (λ y later. y ≢ later) x xs (λ k d below same. not
        (subst (λ z. Contains xs z) (sym same) (All-contains_itself xs k d below))) apart)
        (λ y has. elim (Contains-append_cases (x ∷ []) xs y has)
        [ inl here ↦ subst (λ z. Contains ys z) (only_one x y here) there | inr rest ↦ within y rest ]) in
        let first = counted x xs in
        let one = ap (λ b. cond {A = ℕ} b 1 0) passes in
        omega (arith, more, first, one)

    -- where some pass, there is one
    pub one_passes : (xs : List X) → 1 ≤ count_by p xs → (x : X) × Contains xs x × (p x ≡ true)
    one_passes [] some = absurd (omega (arith, some))
    one_passes (x ∷ xs) some =
        on_bool (λ b. p x ≡ b → (y : X) × Contains (x ∷ xs) y × (p y ≡ true)) (p x) (λ t is. (x, some_in x xs, is))
        (λ f is.
        let first = counted x xs in
        let none = ap (λ b. cond {A = ℕ} b 1 0) is in
        let rest = one_passes xs (omega (arith, some, first, none)) in
        (rest.0, Contains-append_right (x ∷ []) xs rest.0 rest.1, rest.2)) refl

    -- and where one passes, some do
    pub some_pass : (xs : List X) (x : X) → Contains xs x → p x ≡ true → 1 ≤ count_by p xs
    some_pass xs x has passes =
        let split = split_at xs x has in
        let all = ap (count_by p) split.is ∙ sum_by-append (λ y. cond {A = ℕ} (p y) 1 0) split.before (x ∷ split.after) in
        let here = counted x split.after in
        let one = ap (λ b. cond {A = ℕ} b 1 0) passes in
        omega (arith, all, here, one)

-- as many pass where the tested parts are the same
pub mapped_count : {X Y : Type 0} (f : X → Y) (q : Y → Bool) (xs : List X) → count_by (λ x. q (f x)) xs ≡ count_by q (map f xs)
mapped_count f q [] = refl
mapped_count f q (x ∷ xs) =
    let one = sum_by-cons (λ y. cond {A = ℕ} (q (f y)) 1 0) x xs in
    let other = sum_by-cons (λ y. cond {A = ℕ} (q y) 1 0) (f x) (map f xs) in
    let rest = mapped_count f q xs in
    omega (arith, one, other, rest)

-- and by tests that are the same at each element
pub same_tests : {X : Type 0} (p q : X → Bool) → ((x : X) → p x ≡ q x) → (xs : List X) → count_by p xs ≡ count_by q xs
same_tests p q same [] = refl
same_tests p q same (x ∷ xs) =
    let one = counted p x xs in
    let other = counted q x xs in
    let here = ap (λ b. cond {A = ℕ} b 1 0) (same x) in
    let rest = same_tests p q same xs in
    omega (arith, one, other, here, rest)
