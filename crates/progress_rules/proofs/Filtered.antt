-- What a filter keeps of a list of entries, and which keys they have.
use Rattle.std.proofs.Common.{arith, ◌≡◌, refl, sym, ap, ◌∙◌, ℕ, ◌+◌, ◌<◌, ◌≤◌, List, [], ◌∷◌, ◌++◌, inl, inr}
use Rattle.std.specs.Prelude.{Bool, true, cond, filter, Contains, All}
use Rattle.std.specs.List.{AllByRecursion}
use Rattle.std.specs.List.Sorted.{IsStrictlySortedBy}
use Rattle.std.specs.Ordering.{nat_cmp}
use Rattle.std.specs.declared.cmp.Ordering.TheVariants.{Less}
use Rattle.std.specs.Map.{keys_of}
use Rattle.std.proofs.lemmas.Bool.Decides.{nat_tests}
use Rattle.std.proofs.lemmas.List.Elements.{All-head, All-tail, Contains-append_left, Contains-append_right, Contains-append_cases}
use Rattle.directory_rules.proofs.Cases.{on_bool}
use Rattle.directory_rules.proofs.RequestNumbers.{one, one_same, one_cases, times}
use Rattle.progress_rules.proofs.Answered.{only_one}

-- ---- which elements pass
module _ {X : Type 0} (test : X → Bool) where
  -- one that passes is among those that do
  pub passes : (xs : List X) (x : X) → test x ≡ true → Contains xs x → Contains (filter test xs) x
  passes [] x is has = absurd (omega (arith, has.1))
  passes (y ∷ ys) x is has =
      on_bool (λ b. test y ≡ b → Contains (cond b (y ∷ filter test ys) (filter test ys)) x) (test y)
      (λ t so. elim (Contains-append_cases (y ∷ []) ys x has) [
        | inl here ↦ Contains-append_left (y ∷ []) (filter test ys) x here
        | inr there ↦ Contains-append_right (y ∷ []) (filter test ys) x (passes ys x is there)
      ])
      (λ f so. elim (Contains-append_cases (y ∷ []) ys x has) [
        | inl here ↦ let same = ap test (only_one y x here) in absurd (cc (so, same, is))
        | inr there ↦ passes ys x is there
      ])
      refl

  -- and those that do are of the list
  pub passed : (xs : List X) (x : X) → Contains (filter test xs) x → Contains xs x × (test x ≡ true)
  passed [] x has = absurd (omega (arith, has.1))
  passed (y ∷ ys) x has =
      on_bool (λ b. test y ≡ b → Contains (cond b (y ∷ filter test ys) (filter test ys)) x → Contains (y ∷ ys) x × (test x ≡ true)) (test y)
      (λ t so some. elim (Contains-append_cases (y ∷ []) (filter test ys) x some) [
        | inl here ↦ (Contains-append_left (y ∷ []) ys x here, sym (ap test (only_one y x here)) ∙ so)
        | inr there ↦ let rest = passed ys x there in (Contains-append_right (y ∷ []) ys x rest.0, rest.1)
      ])
      (λ f so some. let rest = passed ys x some in (Contains-append_right (y ∷ []) ys x rest.0, rest.1))
      refl has

-- ---- an entry's key is counted, and what is counted is an entry's key
module _ {X : Type 0} where
  pub counted : (es : List (ℕ × X)) (e : ℕ × X) → Contains es e → 1 ≤ times e.0 (keys_of es)
  counted [] e has = absurd (omega (arith, has.1))
  counted (x ∷ xs) e has =
      elim (Contains-append_cases (x ∷ []) xs e has) [
        | inl here ↦ let same = ap (λ (q : ℕ × X). one e.0 q.0) (only_one x e here) ∙ one_same e.0 in omega (arith, same)
        | inr there ↦ let more = counted xs e there in omega (arith, more)
      ]

  pub entry_of_key : (k : ℕ) (es : List (ℕ × X)) → 1 ≤ times k (keys_of es) → (x : X) × Contains es (k, x)
  entry_of_key k [] some = absurd (omega (arith, some))
  entry_of_key k (e ∷ es) some =
      one_cases (λ t. 1 ≤ t + times k (keys_of es) → (x : X) × Contains (e ∷ es) (k, x)) k e.0
      (λ same enough. (e.1, (0, omega arith, ap (λ n. (n, e.1)) same)))
      (λ enough. let rest = entry_of_key k es (omega (arith, enough)) in (rest.0, Contains-append_right (e ∷ []) es (k, rest.0) rest.1))
      some

-- ---- keys in order
pub less_from : (a b : ℕ) → nat_cmp a b ≡ Less → a < b
less_from a b is = grind (arith, nat_tests)

pub less_to : (a b : ℕ) → a < b → nat_cmp a b ≡ Less
less_to a b lt = grind (arith, nat_tests)

module _ {X : Type 0} where
  abbrev Above : ℕ → List (ℕ × X) → Type 0
  Above a es = AllByRecursion (λ k. nat_cmp a k ≡ Less) (keys_of es)

  above_filtered : (test : ℕ × X → Bool) (a : ℕ) (es : List (ℕ × X)) → Above a es → Above a (filter test es)
  above_filtered test a [] above = tt
  above_filtered test a (e ∷ es) above =
      on_bool (λ b. Above a (cond b (e ∷ filter test es) (filter test es))) (test e) (λ t. (above.0, above_filtered test a es above.1))
      (λ f. above_filtered test a es above.1)

  pub sorted_filtered : (test : ℕ × X → Bool) (es : List (ℕ × X)) → IsStrictlySortedBy nat_cmp (keys_of es)
      → IsStrictlySortedBy nat_cmp (keys_of (filter test es))
  unfolding IsStrictlySortedBy
  sorted_filtered test [] sorted = sorted
  sorted_filtered test (e ∷ es) sorted =
      on_bool (λ b. IsStrictlySortedBy nat_cmp (keys_of (cond b (e ∷ filter test es) (filter test es)))) (test e)
      (λ t. (above_filtered test e.0 es sorted.0, sorted_filtered test es sorted.1)) (λ f. sorted_filtered test es sorted.1)

  above_both : (a : ℕ) (xs ys : List (ℕ × X)) → Above a xs → All (λ e. a < e.0) ys → Above a (xs ++ ys)
  above_both a [] [] above all = tt
  above_both a [] (y ∷ ys) above all =
      (less_to a y.0 (All-head (λ (e : ℕ × X). a < e.0) y ys all), above_both a [] ys tt (All-tail (λ (e : ℕ × X). a < e.0) y ys all))
  above_both a (x ∷ xs) ys above all = (above.0, above_both a xs ys above.1 all)

  -- the second list's keys lie above those of the first
  pub sorted_both : (n : ℕ) (xs ys : List (ℕ × X)) → All (λ e. e.0 < n) xs → All (λ e. n ≤ e.0) ys → IsStrictlySortedBy nat_cmp (keys_of xs)
      → IsStrictlySortedBy nat_cmp (keys_of ys) → IsStrictlySortedBy nat_cmp (keys_of (xs ++ ys))
  unfolding IsStrictlySortedBy
  sorted_both n [] ys below above low high = high
  sorted_both n (x ∷ xs) ys below above low high = (
    above_both x.0 xs ys low.0 (λ k d short. let first = All-head (λ (e : ℕ × X). e.0 < n) x xs below in let later = above k d short in
        omega (arith, first, later)),
    sorted_both n xs ys (All-tail (λ (e : ℕ × X). e.0 < n) x xs below) above low.1 high,
  )
