-- Items each of which is above the one before it are distinct.
use Rattle.std.proofs.Common.{◌≡◌, ℕ, zero, suc, ◌+◌, ◌<◌, Bool, true, false, not, List, [], ◌∷◌, length, get_or, refl, ◌∙◌, ap, subst, arith, Ordering, Less, Equal, Greater, is_eq}
use Rattle.std.specs.Prelude.{◌&&◌, ◌||◌}
use Rattle.std.specs.BTreeMap.{is_at}
use Rattle.std.specs.Cmp.{IsTotalOrder}
use Rattle.std.specs.List.{IsAllAdjacentAnswer, list_any}
use Rattle.std.specs.Ordering.{is_lt}
use Rattle.dump_rules.specs.DumpShape.{are_distinct_by}

abbrev IsRising : {K : Type 0} → (K → K → Ordering) → List K → Type 0
IsRising {K} R xs = (k : ℕ) (d : K) → k + 1 < length xs → true ≡ is_lt (R (get_or xs k d) (get_or xs (k + 1) d))

lesser : (o : Ordering) → true ≡ is_lt o → o ≡ Less
lesser Less is = refl
lesser Equal is = absurd (cc)
lesser Greater is = absurd (cc)

behind : {K : Type 0} (R : K → K → Ordering) (x : K) (xs : List K) → IsRising R (x ∷ xs) → IsRising R xs
behind R x xs up k d within =
    let e : suc k + 1 ≡ suc (k + 1) = omega arith in
    subst (λ (n : ℕ). true ≡ is_lt (R (get_or xs k d) (get_or (x ∷ xs) n d))) e (up (suc k) d (omega (arith, within)))

-- the first is below all others
first_below : {K : Type 0} (R : K → K → Ordering) → IsTotalOrder R → (x : K) (xs : List K) → IsRising R (x ∷ xs)
    → (k : ℕ) (d : K) → k < length xs → R x (get_or xs k d) ≡ Less
first_below R total x xs up zero d within = lesser (R x (get_or xs 0 d)) (up 0 d (omega (arith, within)))
first_below R total x xs up (suc k) d within =
    let e : k + 1 ≡ suc k = omega arith in
    total.trans x (get_or xs k d) (get_or xs (suc k) d) (first_below R total x xs up k d (omega (arith, within)))
    (lesser (R (get_or xs k d) (get_or xs (suc k) d))
    (subst (λ (n : ℕ). true ≡ is_lt (R (get_or xs k d) (get_or xs n d))) e (behind R x xs up k d (omega (arith, within)))))

none_at : {X : Type 0} (p : X → Bool) (xs : List X) → ((k : ℕ) (d : X) → k < length xs → p (get_or xs k d) ≡ false) → list_any p xs ≡ false
none_at p [] fails = refl
none_at p (x ∷ xs) fails =
    ap (λ b. b || list_any p xs) (fails 0 x (omega arith)) ∙ none_at p xs (λ k d within. fails (suc k) d (omega (arith, within)))

distinct_if_rising : {K : Type 0} (R : K → K → Ordering) → IsTotalOrder R → (xs : List K) → IsRising R xs
    → are_distinct_by (λ one. is_at (R one)) xs ≡ true
distinct_if_rising R total [] up = refl
distinct_if_rising R total (x ∷ xs) up =
    ap (λ b. not b && are_distinct_by (λ one. is_at (R one)) xs)
    (none_at (is_at (R x)) xs (λ k d within. ap is_eq (first_below R total x xs up k d within)))
    ∙ distinct_if_rising R total xs (behind R x xs up)

pub rising_told : {K : Type 0} (R : K → K → Ordering) → IsTotalOrder R → (xs : List K) (answer : Bool)
    → IsAllAdjacentAnswer (λ one next b. b ≡ is_lt (R one next)) xs answer → answer ≡ true
    → are_distinct_by (λ one. is_at (R one)) xs ≡ true
rising_told R total xs true each is = distinct_if_rising R total xs each
rising_told R total xs false each is = absurd (cc)
