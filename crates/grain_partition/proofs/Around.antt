-- Steps round the circle, from one place over a second to a third.
use Rattle.std.proofs.Common.{arith, ◌≡◌, ℕ, ◌+◌, ◌-◌, ◌<◌, ◌≤◌, true}
use Rattle.std.proofs.lemmas.Bool.Decides.{nat_tests}
use Rattle.ring_range.specs.Range.{circle, Range, distance, ahead, holds, within}

pub distance-over : (first second third : ℕ) → first < circle → second < circle → third < circle
    → distance first second + distance second third < circle
    → distance first third ≡ distance first second + distance second third
distance-over first second third f s t less = grind (arith, nat_tests)

-- what the test of a hash tells
pub holds-below : (range : Range) (hash : ℕ) → distance range.start hash < range.size → holds range hash ≡ true
holds-below range hash below = grind (arith, nat_tests)

pub below-holds : (range : Range) (hash : ℕ) → holds range hash ≡ true → distance range.start hash < range.size
below-holds range hash held = grind (arith, nat_tests)

-- a range that begins in another and ends before it is within it
pub within-before : (inner outer : Range) → distance outer.start inner.start + inner.size ≤ outer.size → within inner outer ≡ true
within-before inner outer le = grind (arith, nat_tests)

-- and any is within the full circle
pub within-full : (inner outer : Range) → outer.size ≡ circle → within inner outer ≡ true
within-full inner outer full = grind (arith, nat_tests)

-- the hash before one that isn't the first
pub step-back : (place hash : ℕ) (steps from : ℕ) → from < circle → place < circle → hash ≡ ahead from steps → 0 < steps → steps < circle
    → 0 < distance place hash
    → distance place (ahead from (steps - 1)) ≡ distance place hash - 1
step-back place hash steps from f p is some less away = grind (arith, nat_tests)
