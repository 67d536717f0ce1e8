-- Steps on the circle, by cases in place of `%`.
use Rattle.std.proofs.Common.{◌≡◌, ℕ, ◌+◌, ◌-◌, ◌%◌, ◌<◌, ◌≤◌, true, false, refl, sym, ◌∙◌, arith}
use Rattle.std.proofs.lemmas.Bool.{false≢true}
use Rattle.std.specs.Bool.{Decides}
use Rattle.std.proofs.lemmas.Bool.Decides.{nat_tests}
use Rattle.ring_range.specs.Range.{circle, Range, IsRange, holds, Holds, within, IsWithin, distance, ahead}

-- the distance by its two cases
pub distance-up : (place hash : ℕ) → place ≤ hash → distance place hash ≡ hash - place
distance-up place hash h = grind (arith, nat_tests)

pub distance-round : (place hash : ℕ) → hash < place → distance place hash ≡ (hash + circle) - place
distance-round place hash h = grind (arith, nat_tests)

-- the distance is the difference round the circle
pub distance-mod : (place hash : ℕ) → place < circle → hash < circle → distance place hash ≡ (hash + circle - place) % circle
distance-mod place hash p h = grind (arith, nat_tests)

pub distance-lt : (place hash : ℕ) → place < circle → hash < circle → distance place hash < circle
distance-lt place hash p h = grind (arith, nat_tests)

pub distance-itself : (place : ℕ) → distance place place ≡ 0
distance-itself place = grind (arith, nat_tests)

-- the other way round makes up the circle
pub distance-back : (place hash : ℕ) → place < circle → hash < circle → 0 < distance place hash
    → distance place hash + distance hash place ≡ circle
distance-back place hash p h d = grind (arith, nat_tests)

pub distance-zero : (place hash : ℕ) → place < circle → hash < circle → distance place hash ≡ 0 → place ≡ hash
distance-zero place hash p h d = grind (arith, nat_tests)

pub ahead-mod : (place steps : ℕ) → place < circle → steps ≤ circle → ahead place steps ≡ (place + steps) % circle
ahead-mod place steps p s = grind (arith, nat_tests)

pub ahead-lt : (place steps : ℕ) → place < circle → steps ≤ circle → ahead place steps < circle
ahead-lt place steps p s = grind (arith, nat_tests)

pub ahead-distance : (place hash : ℕ) → place < circle → hash < circle → ahead place (distance place hash) ≡ hash
ahead-distance place hash p h = grind (arith, nat_tests)

pub distance-ahead : (place steps : ℕ) → place < circle → steps < circle → distance place (ahead place steps) ≡ steps
distance-ahead place steps p s = grind (arith, nat_tests)

-- a hash that is so many steps forward
pub Holds-ahead : (range : Range) (steps : ℕ) → IsRange range → steps < range.size → Holds range (ahead range.start steps)
Holds-ahead range steps ok lt = (steps, lt, grind (arith, nat_tests))

pub hash-lt : (range : Range) (hash : ℕ) → IsRange range → Holds range hash → hash < circle
hash-lt range hash ok h = grind (arith, nat_tests)

-- the test tells the set
pub Decides-holds : (range : Range) (hash : ℕ) → IsRange range → hash < circle → Decides (holds range hash) (Holds range hash)
Decides-holds range hash ok h =
    (λ e. (distance range.start hash, grind (arith, nat_tests), grind (arith, nat_tests)), λ has. grind (arith, nat_tests))

-- a hash of the inner range, by the test
within_keeps : (inner outer : Range) (hash : ℕ) → IsRange inner → IsRange outer → hash < circle → within inner outer ≡ true
    → holds inner hash ≡ true → holds outer hash ≡ true
within_keeps inner outer hash i o h e has = grind (arith, nat_tests)

-- where the test fails, the first hash of the inner range that the outer one hasn't comes at `first_missing` steps
abbrev first_missing : Range → Range → ℕ
first_missing inner outer = outer.size - distance outer.start inner.start

missing_is_inner : (inner outer : Range) → IsRange inner → IsRange outer → within inner outer ≡ false
    → first_missing inner outer < inner.size
missing_is_inner inner outer i o e = grind (arith, nat_tests)

missing_is_out : (inner outer : Range) → IsRange inner → IsRange outer → within inner outer ≡ false
    → holds outer (ahead inner.start (first_missing inner outer)) ≡ false
missing_is_out inner outer i o e = grind (arith, nat_tests)

not_within : (inner outer : Range) → IsRange inner → IsRange outer → within inner outer ≡ false → ¬ (IsWithin inner outer)
not_within inner outer i o e all =
    let k : ℕ = first_missing inner outer in
    let lt : k < inner.size = missing_is_inner inner outer i o e in
    let has : Holds inner (ahead inner.start k) = Holds-ahead inner k i lt in
    let below : ahead inner.start k < circle = hash-lt inner (ahead inner.start k) i has in
    let held : holds outer (ahead inner.start k) ≡ true = (Decides-holds outer (ahead inner.start k) o below).1 (all (ahead inner.start k) has) in
    absurd (false≢true (sym (missing_is_out inner outer i o e) ∙ held))

-- the test tells inclusion
pub Decides-within : (inner outer : Range) → IsRange inner → IsRange outer → Decides (within inner outer) (IsWithin inner outer)
Decides-within inner outer i o = (
  λ e hash has.
      let below : hash < circle = hash-lt inner hash i has in
      (Decides-holds outer hash o below).0 (within_keeps inner outer hash i o below e ((Decides-holds inner hash i below).1 has)),
  λ all. elim (within inner outer) as (λ b. within inner outer ≡ b → b ≡ true)
      [ true ↦ λ e. refl | false ↦ λ e. absurd (not_within inner outer i o e all) ] refl,
)

-- seen from a base, the distance between two hashes is that of their steps from it
pub distance-turn : (base place hash : ℕ) → base < circle → place < circle → hash < circle
    → distance place hash ≡ distance (distance base place) (distance base hash)
distance-turn base place hash b p h = grind (arith, nat_tests)
