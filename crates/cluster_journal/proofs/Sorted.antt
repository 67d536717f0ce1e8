-- Items that are sorted by their numbers: no two have one number exactly if each has a higher one than the one before it.
use Rattle.std.proofs.Common.{◌≡◌, ◌≢◌, ℕ, ◌+◌, ◌<◌, Bool, true, false, List, [], ◌∷◌, length, get_or, refl, sym, true≢false, arith}
use Rattle.std.specs.Prelude.{◌==◌, ◌↔◌, AllPairs, IsTrue, nat_lt}
use Rattle.std.specs.List.{IsAllAdjacentAnswer}
use Rattle.std.specs.List.Sorted.{IsNonDecreasingBy, IsPermutation}
use Rattle.std.proofs.lemmas.Bool.{ltb-false, ltb-true}
use Rattle.std.proofs.lemmas.Bool.Decides.{nat_tests}
use Rattle.std.proofs.lemmas.List.Sorted.{IsPermutation-sym}
use Rattle.std.proofs.lemmas.Map.Keys.{IsDistinct-IsPermutation, IsDistinct-from_apart, apart_from_distinct}

module _ {X : Type 0} (number : X → ℕ) where
  abbrev Apart : X → X → Type 0
  Apart one other = number one ≢ number other

  abbrev is_same : X → X → Bool
  is_same one other = number one == number other

  -- ---- In another order they are as distinct as before.
  flips : (one other : X) → is_same one other ≡ is_same other one
  flips one other = grind (arith, nat_tests)

  differs : (one other : X) → Apart one other → is_same one other ≡ false
  differs one other apart = grind (arith, nat_tests, apart)

  parts : (one other : X) → is_same one other ≡ false → Apart one other
  parts one other differ same = grind (arith, nat_tests)

  apart_moved : (xs ys : List X) → IsPermutation xs ys → AllPairs Apart xs → AllPairs Apart ys
  apart_moved xs ys moved apart i j d low within =
      parts (get_or ys i d) (get_or ys j d)
      (apart_from_distinct is_same ys i j d
      (IsDistinct-IsPermutation is_same flips xs ys moved
      (IsDistinct-from_apart is_same xs (λ k l e below up_to. differs (get_or xs k e) (get_or xs l e) (apart k l e below up_to))))
      low within)

  -- ---- In order.
  rising_apart : (ys : List X) → IsNonDecreasingBy number ys
      → ((k : ℕ) (d : X) → k + 1 < length ys → true ≡ nat_lt (number (get_or ys k d)) (number (get_or ys (k + 1) d))) → AllPairs Apart ys
  rising_apart ys up rises i j d low within same =
      let step = ltb-true (number (get_or ys i d)) (number (get_or ys (i + 1) d)) (sym (rises i d (omega (arith, low, within)))) in
      let rest = up (i + 1) j d (omega (arith, low)) within in
      omega (arith, step, rest, same)

  tie_told : (ys : List X) → IsNonDecreasingBy number ys → (k : ℕ) → k + 1 < length ys
      → ((d : X) → false ≡ nat_lt (number (get_or ys k d)) (number (get_or ys (k + 1) d))) → AllPairs Apart ys → ⊥
  tie_told [] up k within ties apart = omega (arith, within)
  tie_told (y ∷ ys) up k within ties apart =
      let here = number (get_or (y ∷ ys) k y) in
      let next = number (get_or (y ∷ ys) (k + 1) y) in
      let above = ltb-false here next (sym (ties y)) in
      let below = up k (k + 1) y (omega arith) within in
      apart k (k + 1) y (omega arith) within (omega (arith, above, below))

  pub told_apart : (xs ys : List X) (answer : Bool) → IsPermutation xs ys → IsNonDecreasingBy number ys
      → IsAllAdjacentAnswer (λ one next b. b ≡ nat_lt (number one) (number next)) ys answer → IsTrue answer ↔ AllPairs Apart xs
  told_apart xs ys true moved up each = (
    λ _. apart_moved ys xs (IsPermutation-sym xs ys moved) (rising_apart ys up each),
    λ _. refl,
  )
  told_apart xs ys false moved up tie = (
    λ is. absurd (true≢false (sym is)),
    λ apart. absurd (tie_told ys up tie.0 tie.1 tie.2 (apart_moved xs ys moved apart)),
  )
