-- Lists in order, by a look at each two neighbours; tests of all items.
use Rattle.std.proofs.Common.{◌≡◌, ℕ, ◌+◌, ◌<◌, zero, suc, Bool, true, false, not, List, [], ◌∷◌, length, map, get_or, refl, sym, ◌∙◌, ap, subst, arith, Option, Some, Ordering, Less, Equal, Greater}
use Rattle.std.specs.Prelude.{◌&&◌, flat_map}
use Rattle.std.specs.List.{IsAllAdjacentAnswer, list_all}
use Rattle.std.specs.Cmp.{IsTotalOrder}
use Rattle.std.specs.Ordering.{is_lt, is_le, ordering_reverse, is_some_and, partial_le}
use Rattle.std.proofs.lemmas.List.Folds.{list_all-append}
use Rattle.dump_rules.specs.DumpShape.{are_in_order}

nowhere : (t : Bool) → (t && false) ≡ false
nowhere true = refl
nowhere false = refl

-- the answer about each two neighbours
pub in_order_answer : {X : Type 0} (compare : X → X → Ordering) (xs : List X) (answer : Bool)
    → IsAllAdjacentAnswer (λ x y b. b ≡ not (is_lt (compare y x))) xs answer → answer ≡ are_in_order compare xs
in_order_answer {X} compare xs true each = up xs each
  where
    up : (ys : List X) → ((k : ℕ) (d : X) → k + 1 < length ys → true ≡ not (is_lt (compare (get_or ys (k + 1) d) (get_or ys k d))))
        → true ≡ are_in_order compare ys
    up [] next = refl
    up (y ∷ []) next = refl
    up (y ∷ z ∷ rest) next =
        up (z ∷ rest) (λ k d low. let e : suc k + 1 ≡ suc (k + 1) = omega arith in
        subst (λ (n : ℕ). true ≡ not (is_lt (compare (get_or (y ∷ z ∷ rest) n d) (get_or (z ∷ rest) k d)))) e
        (next (suc k) d (omega (arith, low))))
        ∙ ap (λ b. b && are_in_order compare (z ∷ rest)) (next 0 y (omega arith))
in_order_answer {X} compare xs false some = down xs some.0 some.1 some.2
  where
    down : (ys : List X) (k : ℕ) → k + 1 < length ys → ((d : X) → false ≡ not (is_lt (compare (get_or ys (k + 1) d) (get_or ys k d))))
        → false ≡ are_in_order compare ys
    down [] k low next = absurd (omega (arith, low))
    down (y ∷ []) k low next = absurd (omega (arith, low))
    down (y ∷ z ∷ rest) zero low next = ap (λ b. b && are_in_order compare (z ∷ rest)) (next y)
    down (y ∷ z ∷ rest) (suc k) low next =
        sym (nowhere (not (is_lt (compare z y))))
        ∙ ap (λ b. not (is_lt (compare z y)) && b) (down (z ∷ rest) k (omega (arith, low))
        (λ d. let e : suc k + 1 ≡ suc (k + 1) = omega arith in
        subst (λ (n : ℕ). false ≡ not (is_lt (compare (get_or (y ∷ z ∷ rest) n d) (get_or (z ∷ rest) k d)))) e (next d)))

le_by : (o p : Ordering) → o ≡ ordering_reverse p → is_le o ≡ not (is_lt p)
le_by o Less is = ap is_le is
le_by o Equal is = ap is_le is
le_by o Greater is = ap is_le is

-- what `is_sorted` answers
pub sorted_answer : {X : Type 0} (part : X → X → Option Ordering) (compare : X → X → Ordering)
    → ((x y : X) → part x y ≡ Some (compare x y)) → IsTotalOrder compare → (xs : List X) (answer : Bool)
    → IsAllAdjacentAnswer (λ x y b. partial_le part x y ≡ b) xs answer → answer ≡ are_in_order compare xs
sorted_answer {X} part compare agrees total xs answer tells = in_order_answer compare xs answer (turn answer tells)
  where
    same : (x y : X) (b : Bool) → partial_le part x y ≡ b → b ≡ not (is_lt (compare y x))
    same x y b is = sym is ∙ (ap (is_some_and is_le) (agrees x y) ∙ le_by (compare x y) (compare y x) (total.antisymm x y))

    turn : (r : Bool) → IsAllAdjacentAnswer (λ x y b. partial_le part x y ≡ b) xs r
        → IsAllAdjacentAnswer (λ x y b. b ≡ not (is_lt (compare y x))) xs r
    turn true each = λ k d low. same (get_or xs k d) (get_or xs (k + 1) d) true (each k d low)
    turn false some = (some.0, some.1, λ d. same (get_or xs some.0 d) (get_or xs (some.0 + 1) d) false (some.2 d))

-- two tests that answer alike
pub list_all_alike : {X : Type 0} (p q : X → Bool) → ((x : X) → p x ≡ q x) → (xs : List X) → list_all p xs ≡ list_all q xs
list_all_alike p q alike [] = refl
list_all_alike p q alike (x ∷ xs) = ap (λ b. b && list_all p xs) (alike x) ∙ ap (λ b. q x && b) (list_all_alike p q alike xs)

-- a test of all that the items list
pub list_all-flat_map : {X Y : Type 0} (p : Y → Bool) (f : X → List Y) (xs : List X)
    → list_all p (flat_map f xs) ≡ list_all (λ x. list_all p (f x)) xs
list_all-flat_map p f [] = refl
list_all-flat_map p f (x ∷ xs) = list_all-append p (f x) (flat_map f xs) ∙ ap (λ b. list_all p (f x) && b) (list_all-flat_map p f xs)

-- in order by a key
pub in_order_by : {X K : Type 0} (compare : K → K → Ordering) (key : X → K) (xs : List X)
    → are_in_order (λ one next. compare (key one) (key next)) xs ≡ are_in_order compare (map key xs)
in_order_by compare key [] = refl
in_order_by compare key (x ∷ []) = refl
in_order_by compare key (x ∷ y ∷ rest) = ap (λ b. not (is_lt (compare (key y) (key x))) && b) (in_order_by compare key (y ∷ rest))
