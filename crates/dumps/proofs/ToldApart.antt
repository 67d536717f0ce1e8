-- Grains with numbers of their own are distinct.
use Rattle.std.proofs.Common.{◌≡◌, ℕ, suc, ◌+◌, ◌<◌, ◌≤◌, Bool, true, false, cond, not, List, [], ◌∷◌, map, get_or, count_by, refl, sym, ◌∙◌, ap, subst, arith}
use Rattle.std.specs.Prelude.{◌==◌, ◌&&◌, ◌||◌, nat_lt}
use Rattle.std.specs.Borrow.{Bor}
use Rattle.std.specs.List.{IsAllAdjacentAnswer, list_any}
use Rattle.std.specs.List.Sorted.{IsPermutation}
use Rattle.std.proofs.lemmas.Bool.{ltb-true}
use Rattle.std.proofs.lemmas.Bool.Decides.{nat_tests}
use Rattle.std.proofs.lemmas.List.Sorted.{sum_by-IsPermutation}
use Rattle.std.proofs.lemmas.List.Sums.{sum_by-cons}
use Rattle.silo_address.specs.Grain.{Grain, grain_eq}
use Rattle.silo_address.proofs.Same.{Decides-grain}
use Rattle.dump_rules.specs.DumpShape.{are_distinct_by}
use Rattle.dumps.specs.Mixed.{Rises, grains_lent}

pub rising_answer : (numbers : List ℕ) (answer : Bool) → IsAllAdjacentAnswer (λ one next b. b ≡ nat_lt one next) numbers answer
    → answer ≡ true → Rises numbers
rising_answer numbers true each is =
    λ index d within. ltb-true (get_or numbers index d) (get_or numbers (index + 1) d) (sym (each index d within))
rising_answer numbers false each is = absurd (cc)

abbrev one_if : Bool → ℕ
one_if t = cond t 1 0

-- how often a number stands there
abbrev times : ℕ → List ℕ → ℕ
times number numbers = count_by (λ one. one == number) numbers

-- ---- Where each number is above the one before it, each stands there once at most.
rises_behind : (x : ℕ) (xs : List ℕ) → Rises (x ∷ xs) → Rises xs
rises_behind x xs up index d within =
    let e : suc index + 1 ≡ suc (index + 1) = omega arith in
    subst (λ (n : ℕ). get_or xs index d < get_or (x ∷ xs) n d) e (up (suc index) d (omega (arith, within)))

counted_one : (x number : ℕ) (xs : List ℕ) → times number (x ∷ xs) ≡ one_if (x == number) + times number xs
counted_one x number xs = sum_by-cons (λ (n : ℕ). cond (n == number) 1 0) x xs

apart : (x number : ℕ) → number < x → one_if (x == number) ≡ 0
apart x number low = grind (arith, nat_tests)

none_above : (number x : ℕ) (xs : List ℕ) → number ≤ x → Rises (x ∷ xs) → times number xs ≡ 0
none_above number x [] low up = refl
none_above number x (y ∷ ys) low up =
    let step : x < y = up 0 x (omega arith) in
    let here = apart y number (omega (arith, low, step)) in
    let rest = none_above number y ys (omega (arith, low, step)) (rises_behind x (y ∷ ys) up) in
    let whole = counted_one y number ys in
    omega (arith, here, rest, whole)

at_most_one : (t : Bool) → one_if t ≤ 1
at_most_one true = omega arith
at_most_one false = omega arith

same_number : (x number : ℕ) → (x == number) ≡ true → number ≤ x
same_number x number is = grind (arith, nat_tests)

once : (number : ℕ) (xs : List ℕ) → Rises xs → times number xs ≤ 1
once number [] up = omega arith
once number (x ∷ xs) up = by (x == number) refl (once number xs (rises_behind x xs up))
  where
    by : (t : Bool) → (x == number) ≡ t → times number xs ≤ 1 → times number (x ∷ xs) ≤ 1
    by true is later =
        let rest = none_above number x xs (same_number x number is) up in
        let whole = counted_one x number xs in
        let here = at_most_one (x == number) in
        omega (arith, rest, whole, here)
    by false is later =
        let whole = counted_one x number xs in
        let here : one_if (x == number) ≡ 0 = ap one_if is in
        omega (arith, later, whole, here)

-- ---- A grain that stands twice has a number that does.
counted_there : (numbers : Grain → ℕ) (grain : Grain) (grains : List Grain) → list_any (grain_eq grain) grains ≡ true
    → 1 ≤ times (numbers grain) (map numbers grains)
counted_there numbers grain [] there = absurd (cc)
counted_there numbers grain (one ∷ grains) there = by (grain_eq grain one) refl (counted_there numbers grain grains)
  where
    whole : times (numbers grain) (map numbers (one ∷ grains)) ≡ one_if (numbers one == numbers grain) + times (numbers grain)
        (map numbers grains)
    whole = counted_one (numbers one) (numbers grain) (map numbers grains)

    itself : (n : ℕ) → (n == n) ≡ true
    itself n = grind (arith, nat_tests)

    by : (t : Bool) → grain_eq grain one ≡ t → (list_any (grain_eq grain) grains ≡ true → 1 ≤ times (numbers grain) (map numbers grains))
        → 1 ≤ times (numbers grain) (map numbers (one ∷ grains))
    by true is later =
        let same : (numbers one == numbers grain) ≡ true = ap (λ (g : Grain). numbers one == numbers g) ((Decides-grain grain one).0 is) ∙ itself (numbers one) in
        let here : one_if (numbers one == numbers grain) ≡ 1 = ap one_if same in
        let all = whole in
        omega (arith, here, all)
    by false is later =
        let rest = later (ap (λ b. b || list_any (grain_eq grain) grains) (sym is) ∙ there) in
        let all = whole in
        omega (arith, rest, all)

pub distinct_by_numbers : (numbers : Grain → ℕ) (grains : List Grain) → ((number : ℕ) → times number (map numbers grains) ≤ 1)
    → are_distinct_by grain_eq grains ≡ true
distinct_by_numbers numbers [] each = refl
distinct_by_numbers numbers (grain ∷ grains) each = by (list_any (grain_eq grain) grains) refl (distinct_by_numbers numbers grains fewer)
  where
    whole : (number : ℕ) → times number (map numbers (grain ∷ grains)) ≡ one_if (numbers grain == number) + times number
        (map numbers grains)
    whole number = counted_one (numbers grain) number (map numbers grains)

    fewer : (number : ℕ) → times number (map numbers grains) ≤ 1
    fewer number = let all = whole number in let most = each number in omega (arith, all, most)

    itself : (n : ℕ) → (n == n) ≡ true
    itself n = grind (arith, nat_tests)

    by : (t : Bool) → list_any (grain_eq grain) grains ≡ t → are_distinct_by grain_eq grains ≡ true
        → are_distinct_by grain_eq (grain ∷ grains) ≡ true
    by true there rest =
        let again = counted_there numbers grain grains there in
        let here : one_if (numbers grain == numbers grain) ≡ 1 = ap one_if (itself (numbers grain)) in
        let all = whole (numbers grain) in
        let most = each (numbers grain) in
        absurd (omega (arith, again, here, all, most))
    by false none rest = ap (λ b. not b && are_distinct_by grain_eq grains) none ∙ rest

pub told_apart : (numbers : Grain → ℕ) (grains : List Grain) (sorted : List ℕ) → IsPermutation (map numbers grains) sorted → Rises sorted
    → are_distinct_by grain_eq grains ≡ true
told_apart numbers grains sorted moved up =
    distinct_by_numbers numbers grains (λ number.
    let same = sum_by-IsPermutation (λ (n : ℕ). cond (n == number) 1 0) (map numbers grains) sorted moved in
    let least = once number sorted up in
    omega (arith, same, least))

pub map_lent : (numbers : Grain → ℕ) (grains : List (Bor Grain))
    → map (λ (grain : Bor Grain). numbers grain.now) grains ≡ map numbers (grains_lent grains)
map_lent numbers [] = refl
map_lent numbers (grain ∷ grains) = ap (λ ns. numbers grain.now ∷ ns) (map_lent numbers grains)
