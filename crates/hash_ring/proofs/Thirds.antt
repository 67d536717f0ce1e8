-- A search by thirds, in points that stand by place.
use Rattle.std.proofs.Common.{◌≡◌, ◌⊎◌, ℕ, ◌+◌, ◌-◌, ◌*◌, ◌<◌, ◌≤◌, List, length, get_or, Bool, true, false, sym, ap, subst, inl, inr, arith}
use Rattle.std.proofs.Common.{leb}
use mir.Val.{bool_byte as from_bool}
use Rattle.std.proofs.lemmas.Bool.{cases_lt, leb-true, leb-false}
use Rattle.std.proofs.lemmas.List.{get_or_default}
use Rattle.hash_ring.specs.declared.point.Point.{Point}
use Rattle.hash_ring.specs.Search.{PlacesRise, IsStepByThirds}

-- what stands before the start is up to the place, and what stands from the end on is after it
pub record IsNarrowed (points : List Point) (start size place : ℕ) : Type 0 where
  pub within : start + size ≤ length points
  pub below : (k : ℕ) (d : Point) → k < start → (get_or points k d).place ≤ place
  pub above : (k : ℕ) (d : Point) → start + size ≤ k → k < length points → place < (get_or points k d).place

-- a step narrows
pub narrowed : (points : List Point) (start size third place step : ℕ) → IsNarrowed points start size place → 3 * third ≤ size + 1
    → 2 * third ≤ size → IsStepByThirds points start third place step
    → IsNarrowed points (start + step) (size - 2 * third) place
narrowed points start size third place step old few room by_thirds = record {
  within = let w = old.within in let b = by_thirds.bound in omega arith;
  below = λ k d before. low k d before (cases_lt k start);
  above = λ k d after within. high by_thirds.above k d after within;
}
  where
    low : (k : ℕ) (d : Point) → k < start + step → (k < start) ⊎ (start ≤ k) → (get_or points k d).place ≤ place
    low k d before (inl passed) = old.below k d passed
    low k d before (inr from) = by_thirds.below k d from before

    high : (step ≡ 2 * third) ⊎ ((k : ℕ) (d : Point) → start + step + third ≤ k + 1 → k < length points → place < (get_or points k d).place)
        → (k : ℕ) (d : Point) → (start + step) + (size - 2 * third) ≤ k → k < length points → place < (get_or points k d).place
    high (inl whole) k d after within = old.above k d (omega arith) within
    high (inr ends) k d after within = let b = by_thirds.bound in ends k d (omega arith) within

-- ---- A comparison at a point, whichever point the reading of the list falls back to.
upto_at : (points : List Point) (m : ℕ) (e d : Point) (place : ℕ) → m < length points → leb (get_or points m e).place place ≡ true
    → (get_or points m d).place ≤ place
upto_at points m e d place within is =
    let same = ap (λ (p : Point). p.place) (get_or_default points m e d within) in let h = leb-true (get_or points m e).place place is in
    omega arith

after_at : (points : List Point) (m : ℕ) (e d : Point) (place : ℕ) → m < length points → leb (get_or points m e).place place ≡ false
    → place < (get_or points m d).place
after_at points m e d place within is =
    let same = ap (λ (p : Point). p.place) (get_or_default points m e d within) in let h = leb-false (get_or points m e).place place is in
    omega arith

-- the two comparisons, added up, make a step
stepped : (points : List Point) (start third place : ℕ) (e g : Point) (near far : Bool) → PlacesRise points → 0 < third
    → start + 2 * third ≤ length points
    → leb (get_or points ((start + third) - 1) e).place place ≡ near → leb (get_or points ((start + 2 * third) - 1) g).place place ≡ far
    → IsStepByThirds points start third place (third * (from_bool near + from_bool far))
stepped points start third place e g true true rise some within near far = record {
  bound = omega arith;
  below = λ k d from before.
      let up : (get_or points k d).place ≤ (get_or points ((start + 2 * third) - 1) d).place = rise k ((start + 2 * third) - 1) d (omega arith) (omega arith) in
      let at = upto_at points ((start + 2 * third) - 1) g d place (omega arith) far in
      omega arith;
  above = inl (omega arith);
}
stepped points start third place e g true false rise some within near far = record {
  bound = omega arith;
  below = λ k d from before.
      let up : (get_or points k d).place ≤ (get_or points ((start + third) - 1) d).place = rise k ((start + third) - 1) d (omega arith) (omega arith) in
      let at = upto_at points ((start + third) - 1) e d place (omega arith) near in
      omega arith;
  above = inr (λ k d after inside.
      let up : (get_or points ((start + 2 * third) - 1) d).place ≤ (get_or points k d).place = rise ((start + 2 * third) - 1) k d (omega arith) inside in
      let at = after_at points ((start + 2 * third) - 1) g d place (omega arith) far in
      omega arith);
}
stepped points start third place e g false true rise some within near far =
    let up : (get_or points ((start + third) - 1) e).place ≤ (get_or points ((start + 2 * third) - 1) e).place = rise ((start + third) - 1) ((start + 2 * third) - 1) e (omega arith) (omega arith) in
    let low = after_at points ((start + third) - 1) e e place (omega arith) near in
    let high = upto_at points ((start + 2 * third) - 1) g e place (omega arith) far in
    absurd (omega arith)
stepped points start third place e g false false rise some within near far = record {
  bound = omega arith;
  below = λ k d from before. absurd (omega arith);
  above = inr (λ k d after inside.
      let up : (get_or points ((start + third) - 1) d).place ≤ (get_or points k d).place = rise ((start + third) - 1) k d (omega arith) inside in
      let at = after_at points ((start + third) - 1) e d place (omega arith) near in
      omega arith);
}

pub stepped_by : (points : List Point) (start third place : ℕ) (e g : Point) (near far : Bool) (a b : ℕ) → PlacesRise points → 0 < third
    → start + 2 * third ≤ length points
    → leb (get_or points ((start + third) - 1) e).place place ≡ near → leb (get_or points ((start + 2 * third) - 1) g).place place ≡ far
    → a ≡ from_bool near → b ≡ from_bool far → IsStepByThirds points start third place (third * (a + b))
stepped_by points start third place e g near far a b rise some within nearer farther one other =
    subst (λ n. IsStepByThirds points start third place (third * (n + b))) (sym one)
    (subst (λ n. IsStepByThirds points start third place (third * (from_bool near + n))) (sym other)
    (stepped points start third place e g near far rise some within nearer farther))
