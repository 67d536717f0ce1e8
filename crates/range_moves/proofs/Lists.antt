-- Lists of what is made of another list's items.
use Rattle.std.proofs.Common.{◌≡◌, ℕ, suc, ◌+◌, ◌<◌, Bool, true, false, cond, List, [], ◌∷◌, map, count_by, All, Option, Some, None, IfSome, MatchOption, refl, sym, ◌∙◌, ap, arith}
use Rattle.std.specs.Prelude.{AllPairs, Any}
use Rattle.std.specs.List.{filter_map, cons_option}
use Rattle.std.proofs.lemmas.List.Elements.{All-nil, All-cons, All-head, All-tail, All-map}
use Rattle.std.proofs.lemmas.List.Kept.{AllPairs-cons}
use Rattle.std.proofs.lemmas.List.Sums.{sum_by-cons}

pub AllPairs-map : {X Y : Type 0} (R : Y → Y → Type 0) (f : X → Y) (xs : List X) → AllPairs (λ a b. R (f a) (f b)) xs
    → AllPairs R (map f xs)
AllPairs-map R f [] pairs = λ i j d lt within. absurd (omega arith)
AllPairs-map R f (x ∷ xs) pairs =
    AllPairs-cons R (f x) (map f xs) (All-map (R (f x)) f xs (λ k d lt. pairs 0 (suc k) d (omega arith) (omega arith)))
    (AllPairs-map R f xs (λ i j d lt within. pairs (suc i) (suc j) d (omega arith) (omega arith)))

All-given : {Y : Type 0} (P : Y → Type 0) (given : Option Y) (ys : List Y) → IfSome given P → All P ys → All P (cons_option given ys)
All-given P None ys here rest = rest
All-given P (Some y) ys here rest = All-cons P y ys here rest

-- what is given of the items that give something
pub All-filter_map : {X Y : Type 0} (P : Y → Type 0) (h : X → Option Y) (xs : List X) → All (λ x. IfSome (h x) P) xs
    → All P (filter_map h xs)
All-filter_map P h [] all = All-nil P
All-filter_map {X} P h (x ∷ xs) all =
    All-given P (h x) (filter_map h xs) (All-head (λ (x : X). IfSome (h x) P) x xs all)
    (All-filter_map P h xs (All-tail (λ (x : X). IfSome (h x) P) x xs all))

count_given : {Y : Type 0} (p : Y → Bool) (passes : Bool) (given : Option Y) (ys : List Y)
    → MatchOption given (passes ≡ false) (λ y. p y ≡ passes) → count_by p (cons_option given ys) ≡ cond passes 1 0 + count_by p ys
count_given p passes None ys agrees = sym (ap (λ b. cond b 1 0 + count_by p ys) agrees ∙ none_more (count_by p ys))
  where
    none_more : (n : ℕ) → 0 + n ≡ n
    none_more n = omega arith
count_given p passes (Some y) ys agrees = sum_by-cons (λ y. cond (p y) 1 0) y ys ∙ ap (λ b. cond b 1 0 + count_by p ys) agrees

-- how many pass a test, where what an item gives passes just as the item does by another
pub count_by-filter_map : {X Y : Type 0} (p : Y → Bool) (q : X → Bool) (h : X → Option Y) (xs : List X)
    → All (λ x. MatchOption (h x) (q x ≡ false) (λ y. p y ≡ q x)) xs → count_by p (filter_map h xs) ≡ count_by q xs
count_by-filter_map p q h [] all = refl
count_by-filter_map {X} p q h (x ∷ xs) all =
    count_given p (q x) (h x) (filter_map h xs) (All-head (λ (x : X). MatchOption (h x) (q x ≡ false) (λ y. p y ≡ q x)) x xs all)
    ∙ ap (λ n. cond (q x) 1 0 + n) (count_by-filter_map p q h xs
    (All-tail (λ (x : X). MatchOption (h x) (q x ≡ false) (λ y. p y ≡ q x)) x xs all))
    ∙ sym (sum_by-cons (λ x. cond (q x) 1 0) x xs)

any_there : {X : Type 0} (P : X → Type 0) (x : X) (xs : List X) → Any P xs → Any P (x ∷ xs)
any_there P x xs there = (suc there.0, there.1, let lt = there.2 in omega arith, there.3, there.4)

counted_from : {X : Type 0} (p : X → Bool) (x : X) (xs : List X) (passes : Bool) → p x ≡ passes
    → (0 < count_by p xs → Any (λ x. p x ≡ true) xs) → 0 < cond passes 1 0 + count_by p xs → Any (λ x. p x ≡ true) (x ∷ xs)
counted_from p x xs true e rest some = (0, x, omega arith, refl, e)
counted_from {X} p x xs false e rest some = any_there (λ (x : X). p x ≡ true) x xs (rest (omega arith))

-- where one passes at least, there is one that passes
pub Any-counted : {X : Type 0} (p : X → Bool) (xs : List X) → 0 < count_by p xs → Any (λ x. p x ≡ true) xs
Any-counted p [] some = absurd (omega arith)
Any-counted p (x ∷ xs) some = counted_from p x xs (p x) refl (Any-counted p xs) (omega (arith, sum_by-cons (λ x. cond (p x) 1 0) x xs))
