-- The circle, cut at places.
use Rattle.std.proofs.Common.{◌≡◌, ℕ, ◌+◌, ◌<◌, ◌≤◌, min, cond, List, [], ◌∷◌, fold, count_by, All, Contains, refl, sym, ◌∙◌, subst, arith, inl, inr}
use Rattle.std.specs.Prelude.{AllPairs}
use Rattle.std.proofs.lemmas.Bool.{lt-ltb}
use Rattle.std.proofs.lemmas.Bool.Decides.{nat_tests}
use Rattle.std.proofs.lemmas.List.Elements.{All-nil, All-cons, All-head, All-weaker, All-contains}
use Rattle.std.proofs.lemmas.List.Kept.{AllPairs-cons}
use Rattle.ring_range.specs.Range.{circle, Range, IsRange, EachHash, holds, distance, ahead, part_of}
use Rattle.ring_range.specs.Cut.{cut_steps, cut_parts, parts_between, IsInside}
use Rattle.ring_range.proofs.Circle.{distance-lt}
use Rattle.ring_range.proofs.Steps.{Rises, Rises-below, Each, Each-cut_steps, Rises-cut_steps}
use Rattle.ring_range.proofs.Parts.{start-part}
use Rattle.ring_range.proofs.Cuts.{is_cut, ranges}
use Rattle.range_moves.specs.Arcs.{circle_cut_at, arcs_per_hash}
use Rattle.range_moves.proofs.Lowest.{low_below, low_there}

-- the full circle, going forward from a place
abbrev pub circle_from : ℕ → Range
circle_from place = record { start = place; size = circle }

-- what the parts of the circle are
pub record AreParts (places : List ℕ) (parts : List Range) : Type 0 where
  pub once : EachHash (λ hash. count_by (λ part. holds part hash) parts ≡ arcs_per_hash places)
  pub ranges : All IsRange parts
  pub present : All (λ part. 0 < part.size) parts
  pub in_order : AllPairs (λ part later. part.start < later.start) parts
  pub begins : All (λ part. Contains places part.start) parts
  pub uncut : All (λ part. All (λ place. ¬ (IsInside part place)) places) parts

stays : (low step : ℕ) → low < circle → step < circle → low ≤ ahead low step → low + step < circle
stays low step l s le = grind (arith, nat_tests)

pub ahead-up : (low step : ℕ) → low + step < circle → ahead low step ≡ low + step
ahead-up low step lt = grind (arith, nat_tests)

module _ (low : ℕ) (l : low < circle) where
  -- a step to a place doesn't lead over 0, where no place is below the first
  pub steps_stay : (places : List ℕ) → All (λ place. low ≤ place) places → (from : ℕ) (steps : List ℕ) → Rises from steps circle
      → Each (λ step. Contains places (ahead low step)) steps → Each (λ step. low + step < circle) steps
  steps_stay places above from [] r each = tt
  steps_stay places above from (step ∷ steps) r each = (
    stays low step l (Rises-below step steps circle r.1) (All-contains (λ place. low ≤ place) places (ahead low step) above each.0),
    steps_stay places above step steps r.1 each.1,
  )

  pub start_up : (from to : ℕ) → low + from < circle → from < to → (part_of (circle_from low) from to).start ≡ low + from
  start_up from to below lt = start-part (circle_from low) from to lt ∙ ahead-up low from below

  starts_above : (from : ℕ) (steps : List ℕ) → low + from < circle → Rises from steps circle → Each (λ step. low + step < circle) steps
      → All (λ part. low + from ≤ part.start) (parts_between (circle_from low) from steps)
  starts_above from [] below r each =
      let start = start_up from circle below r in
      All-cons (λ (part : Range). low + from ≤ part.start) (part_of (circle_from low) from circle) [] (omega arith)
      (All-nil (λ (part : Range). low + from ≤ part.start))
  starts_above from (to ∷ steps) below r each =
      let start = start_up from to below r.0 in
      let lt = r.0 in
      All-cons (λ (part : Range). low + from ≤ part.start) (part_of (circle_from low) from to) (parts_between (circle_from low) to steps)
      (omega arith)
      (All-weaker (λ (part : Range). low + to ≤ part.start) (λ (part : Range). low + from ≤ part.start) (λ part le. omega arith)
      (parts_between (circle_from low) to steps) (starts_above to steps each.0 r.1 each.1))

  starts_rise : (from : ℕ) (steps : List ℕ) → low + from < circle → Rises from steps circle → Each (λ step. low + step < circle) steps
      → AllPairs (λ part later. part.start < later.start) (parts_between (circle_from low) from steps)
  starts_rise from [] below r each =
      AllPairs-cons (λ (part later : Range). part.start < later.start) (part_of (circle_from low) from circle) []
      (All-nil (λ (later : Range). (part_of (circle_from low) from circle).start < later.start))
      (λ i j d lt within. absurd (omega arith))
  starts_rise from (to ∷ steps) below r each =
      let start : (part_of (circle_from low) from to).start ≡ low + from = start_up from to below r.0 in
      let lt : from < to = r.0 in
      AllPairs-cons (λ (part later : Range). part.start < later.start) (part_of (circle_from low) from to)
      (parts_between (circle_from low) to steps)
      (All-weaker (λ (later : Range). low + to ≤ later.start) (λ (later : Range). (part_of (circle_from low) from to).start < later.start)
      (λ later le. omega arith) (parts_between (circle_from low) to steps) (starts_above to steps each.0 r.1 each.1))
      (starts_rise to steps each.0 r.1 each.1)

holds-full : (low hash : ℕ) → low < circle → hash < circle → ◌≡◌ {A = ℕ} (cond (holds (circle_from low) hash) 1 0) 1
holds-full low hash l h = rw (lt-ltb (distance low hash) circle (distance-lt low hash l h)) refl

IsRange-circle_from : (low : ℕ) → low < circle → IsRange (circle_from low)
IsRange-circle_from low l = record { start_below = l; size_within = omega arith }

pub no_parts : AreParts [] []
no_parts = record {
  once = λ hash h. refl;
  ranges = All-nil IsRange;
  present = All-nil (λ (part : Range). 0 < part.size);
  in_order = λ i j d lt within. absurd (omega arith);
  begins = All-nil (λ (part : Range). Contains [] part.start);
  uncut = All-nil (λ (part : Range). All (λ place. ¬ (IsInside part place)) []);
}

pub low_on_circle : (place : ℕ) (places : List ℕ) → All (λ place. place < circle) (place ∷ places) → fold min place places < circle
low_on_circle place places below =
    let lt : place < circle = All-head (λ place. place < circle) place places below in
    let le : fold min place places ≤ place = All-head (λ m. fold min place places ≤ m) place places (low_below place places) in
    omega arith

pub circle_steps_stay : (place : ℕ) (places : List ℕ) → All (λ place. place < circle) (place ∷ places)
    → Each (λ step. fold min place places + step < circle) (cut_steps (circle_from (fold min place places)) (place ∷ places))
circle_steps_stay place places below =
    let low : ℕ = fold min place places in
    let l : low < circle = low_on_circle place places below in
    steps_stay low l (place ∷ places) (low_below place places) 0 (cut_steps (circle_from low) (place ∷ places))
    (Rises-cut_steps (circle_from low) (place ∷ places) (omega arith)) (Each-cut_steps (circle_from low) (place ∷ places) l below)

some_parts : (place : ℕ) (places : List ℕ) → All (λ place. place < circle) (place ∷ places)
    → AreParts (place ∷ places) (cut_parts (circle_from (fold min place places)) (place ∷ places))
unfolding cut_parts
some_parts place places below =
    let low : ℕ = fold min place places in
    let l : low < circle = low_on_circle place places below in
    let full : Range = circle_from low in
    let cut = is_cut full (place ∷ places) (IsRange-circle_from low l) below in
    record {
      once = λ hash h. cut.once hash h ∙ holds-full low hash l h;
      ranges = ranges full (place ∷ places) (IsRange-circle_from low l);
      present = cut.present;
      in_order =
          starts_rise low l 0 (cut_steps full (place ∷ places)) (omega arith) (Rises-cut_steps full (place ∷ places) (omega arith))
          (circle_steps_stay place places below);
      begins =
          λ k d lt. elim (cut.begins k d lt) [
            | inl e ↦ subst (Contains (place ∷ places)) (sym e) (low_there place places)
            | inr there ↦
                there
          ];
      uncut = cut.uncut;
    }

pub parts_whole : (places : List ℕ) → All (λ place. place < circle) places → AreParts places (circle_cut_at places)
parts_whole [] below = no_parts
parts_whole (place ∷ places) below = some_parts place places below
