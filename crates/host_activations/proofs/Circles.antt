-- Where in the order of hashes the steps into a range come: from its start on, and over 0 where it goes on there.
use Rattle.std.proofs.Common.{◌≡◌, ◌⊎◌, inl, inr, refl, ap, ℕ, ◌+◌, ◌-◌, ◌<◌, ◌≤◌, [], ◌∷◌, cond, Bool, true, ◌&&◌, ◌||◌, arith}
use Rattle.std.specs.Prelude.{nat_le, nat_lt}
use Rattle.std.proofs.lemmas.Bool.{and_from, and_parts, le-leb, leb-false, leb-true, lt-ltb, ltb-true, or_left, or_right}
use Rattle.ring_range.specs.Range.{Range, IsRange, circle, distance, holds}
use Rattle.directory_rules.specs.Standing.{steps_to}
use Rattle.directory_rules.proofs.Cases.{on_bool}

-- whether the hash is one from the first up to the bound
abbrev pub stands_between : (first bound hash : ℕ) → Bool
stands_between first bound hash = nat_le first hash && nat_lt hash bound

pub between_parts : (first bound hash : ℕ) → stands_between first bound hash ≡ true → (first ≤ hash) × (hash < bound)
between_parts first bound hash is =
    let both = and_parts (nat_le first hash) (nat_lt hash bound) is in
    (leb-true first hash both.0, ltb-true hash bound both.1)

between_from : (first bound hash : ℕ) → first ≤ hash → hash < bound → stands_between first bound hash ≡ true
between_from first bound hash from below =
    and_from (nat_le first hash) (nat_lt hash bound) (le-leb first hash from) (lt-ltb hash bound below)

-- a hash comes so many steps after the start, or it comes behind 0
distance_is : (start hash : ℕ) → start < circle
    → ((start ≤ hash) × (distance start hash + start ≡ hash)) ⊎ ((hash < start) × (distance start hash + start ≡ hash + circle))
distance_is start hash within =
    on_bool (λ b. nat_le start hash ≡ b
    → ((start ≤ hash) × (cond b (hash - start) ((hash + circle) - start) + start ≡ hash))
    ⊎ ((hash < start) × (cond b (hash - start) ((hash + circle) - start) + start ≡ hash + circle))) (nat_le start hash)
    (λ t is. let le : start ≤ hash = leb-true start hash is in inl (le, omega (arith, le)))
    (λ f is. let lt : hash < start = leb-false start hash is in inr (lt, omega (arith, lt, within))) refl

module _ (range : Range) (is : IsRange range) where
  steps_are : (hash : ℕ) → distance range.start hash < range.size → steps_to (range ∷ []) hash ≡ distance range.start hash
  steps_are hash below =
      ap (λ b. cond b (distance range.start hash) (range.size + 0)) (lt-ltb (distance range.start hash) range.size below)

  -- ---- What stands in a stretch stands before the steps at its bound.
  pub before_low : (first bound hash : ℕ) → range.start ≤ first → bound ≤ range.start + range.size
      → stands_between first bound hash ≡ true → steps_to (range ∷ []) hash < bound - range.start
  before_low first bound hash from within stands =
      let parts = between_parts first bound hash stands in
      let at : first ≤ hash = parts.0 in
      let below : hash < bound = parts.1 in
      let start_below = is.start_below in
      let size_within = is.size_within in
      elim (distance_is range.start hash is.start_below) [
        | inl up ↦
            let so : distance range.start hash + range.start ≡ hash = up.1 in
            let short : distance range.start hash < range.size = omega (arith, so, below, within) in
            let steps = steps_are hash short in
            omega (arith, so, below, steps, at, from)
        | inr over ↦ let under : hash < range.start = over.0 in absurd (omega (arith, under, at, from))
      ]

  pub before_over : (first bound hash : ℕ) → bound + circle ≤ range.start + range.size → stands_between first bound hash ≡ true
      → steps_to (range ∷ []) hash < (bound + circle) - range.start
  before_over first bound hash within stands =
      let parts = between_parts first bound hash stands in
      let below : hash < bound = parts.1 in
      let start_below = is.start_below in
      let size_within = is.size_within in
      elim (distance_is range.start hash is.start_below) [
        | inl up ↦ let above : range.start ≤ hash = up.0 in absurd (omega (arith, above, below, within, size_within))
        | inr over ↦
            let so : distance range.start hash + range.start ≡ hash + circle = over.1 in
            let short : distance range.start hash < range.size = omega (arith, so, below, within) in
            let steps = steps_are hash short in
            omega (arith, so, below, steps, start_below)
      ]

  -- ---- And what comes in so few steps stands there.
  module _ (hash : ℕ) (hash_below : hash < circle) (inside : holds range hash ≡ true) (from : ℕ)
      (reached : from ≤ steps_to (range ∷ []) hash) where
    its : steps_to (range ∷ []) hash ≡ distance range.start hash
    its = steps_are hash (ltb-true (distance range.start hash) range.size inside)

    pub in_low : (bound : ℕ) → bound ≤ circle → steps_to (range ∷ []) hash < bound - range.start
        → stands_between (range.start + from) bound hash ≡ true
    in_low bound within short =
        let start_below = is.start_below in
        elim (distance_is range.start hash is.start_below) [
          | inl up ↦
              let so : distance range.start hash + range.start ≡ hash = up.1 in
              between_from (range.start + from) bound hash (omega (arith, so, its, reached)) (omega (arith, so, its, short))
          | inr over ↦
              let so : distance range.start hash + range.start ≡ hash + circle = over.1 in
              absurd (omega (arith, so, its, short, within))
        ]

    pub in_over : (bound : ℕ) → circle ≤ range.start + from → steps_to (range ∷ []) hash < (bound + circle) - range.start
        → stands_between ((range.start + from) - circle) bound hash ≡ true
    in_over bound past short =
        let start_below = is.start_below in
        elim (distance_is range.start hash is.start_below) [
          | inl up ↦
              let so : distance range.start hash + range.start ≡ hash = up.1 in
              absurd (omega (arith, so, its, reached, past, hash_below))
          | inr over ↦
              let so : distance range.start hash + range.start ≡ hash + circle = over.1 in
              between_from ((range.start + from) - circle) bound hash (omega (arith, so, its, reached))
              (omega (arith, so, its, short, start_below))
        ]

    pub in_either : (bound : ℕ) → steps_to (range ∷ []) hash < (bound + circle) - range.start
        → (stands_between (range.start + from) circle hash || stands_between 0 bound hash) ≡ true
    in_either bound short =
        let start_below = is.start_below in
        elim (distance_is range.start hash is.start_below) [
          | inl up ↦
              let so : distance range.start hash + range.start ≡ hash = up.1 in
              or_left (stands_between (range.start + from) circle hash) (stands_between 0 bound hash)
              (between_from (range.start + from) circle hash (omega (arith, so, its, reached)) hash_below)
          | inr over ↦
              let so : distance range.start hash + range.start ≡ hash + circle = over.1 in
              or_right (stands_between (range.start + from) circle hash) (stands_between 0 bound hash)
              (between_from 0 bound hash (omega arith) (omega (arith, so, its, short, start_below)))
        ]
