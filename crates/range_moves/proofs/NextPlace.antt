-- The walk from one place to the next, and its end.
use Rattle.std.proofs.Common.{◌≡◌, ℕ, ◌+◌, ◌-◌, ◌<◌, ◌≤◌, ◌==◌, min, Bool, true, false, cond, List, [], ◌∷◌, ◌++◌, map, length, All, Contains, Option, Some, None, sym, ◌∙◌, ap, subst, inl, inr, ⊎_elim, arith, append_assoc}
use Rattle.std.proofs.lemmas.Bool.Decides.{Decides-eqb}
use Rattle.std.proofs.lemmas.List.Elements.{All-contains}
use Rattle.std.proofs.lemmas.Option.{same_Some}
use Rattle.silo_address.specs.Silo.{Silo}
use Rattle.ring_range.specs.Range.{circle, Range, part_of}
use Rattle.ring_range.specs.Cut.{parts_between}
use Rattle.ring_range.proofs.Parts.{part_some, range_at}
use Rattle.ring_range.proofs.Steps.{Rises, In as IsStep, In-above, Each}
use Rattle.hash_ring.specs.declared.Point.{Point}
use Rattle.hash_ring.specs.Point.{point_cmp}
use Rattle.hash_ring.proofs.Members.{In, In-right, In-either}
use Rattle.hash_ring.proofs.StrictOrder.{Rising}
use Rattle.range_moves.specs.declared.arc.RingArc.{RingArc}
use Rattle.range_moves.specs.Arcs.{owner_silo, all_places, arc_of, arcs_of}
use Rattle.range_moves.specs.Walk.{place_ahead, nearer_place, owner_at, passed}
use Rattle.range_moves.proofs.Cuts.{circle_from, ahead-up}
use Rattle.range_moves.proofs.Sides.{rising_rest}
use Rattle.range_moves.proofs.Nearest.{IsLowest, next_is_lowest, none_ahead, min_is}
use Rattle.range_moves.proofs.Underway.{AreRings, IsUnderway, each_place, stood, next_side, places_below}

-- ---- the points ahead grow fewer
passed-le : (at : ℕ) (points : List Point) → length (passed at points) ≤ length points
passed-le at [] = omega arith
passed-le at (p ∷ ps) = by (p.place == at) (passed-le at ps)
  where
    by : (same : Bool) → length (passed at ps) ≤ length ps → length (cond same (passed at ps) (p ∷ ps)) ≤ length (p ∷ ps)
    by true le = omega arith
    by false le = omega arith

passed-here : (at : ℕ) (p : Point) (ps : List Point) → p.place ≡ at → length (passed at (p ∷ ps)) < length (p ∷ ps)
passed-here at p ps here =
    let same : (p.place == at) ≡ true = (Decides-eqb p.place at).1 here in
    let now : passed at (p ∷ ps) ≡ passed at ps = ap (λ b. cond b (passed at ps) (p ∷ ps)) same in
    let le = passed-le at ps in
    omega (arith, ap length now)

pub fewer : (old new : List Point) (place : ℕ) → nearer_place (place_ahead old) (place_ahead new) ≡ Some place
    → length (passed place old) + length (passed place new) < length old + length new
fewer [] [] place e = cc
fewer [] (b ∷ new) place e =
    let lt : length (passed place (b ∷ new)) < length (b ∷ new) = passed-here place b new (same_Some b.place place e) in omega arith
fewer (a ∷ old) [] place e =
    let lt : length (passed place (a ∷ old)) < length (a ∷ old) = passed-here place a old (same_Some a.place place e) in omega arith
fewer (a ∷ old) (b ∷ new) place e =
    let low : min a.place b.place ≡ place = same_Some (min a.place b.place) place e in
    let one : length (passed place (a ∷ old)) ≤ length (a ∷ old) = passed-le place (a ∷ old) in
    let two : length (passed place (b ∷ new)) ≤ length (b ∷ new) = passed-le place (b ∷ new) in
    elim (min_is a.place b.place) [
      | inl e ↦ let lt : length (passed place (a ∷ old)) < length (a ∷ old) = passed-here place a old (e ∙ low) in omega arith
      | inr e ↦ let lt : length (passed place (b ∷ new)) < length (b ∷ new) = passed-here place b new (e ∙ low) in omega arith
    ]

-- ---- the parts that the walk makes
sizes : (first start step at : ℕ) → first ≤ start → start < at → step ≡ at - first → step - (start - first) ≡ at - start
sizes first start step at upto lt e = omega arith

back_again : (first start : ℕ) → first ≤ start → first + (start - first) ≡ start
back_again first start upto = omega arith

part_up : (first start step at : ℕ) → first ≤ start → start < circle → start < at → step ≡ at - first
    → part_of (circle_from first) (start - first) step ≡ range_at start (at - start)
part_up first start step at upto on lt e =
    part_some (circle_from first) (start - first) step (omega arith)
    ∙ ap (λ n. range_at n (step - (start - first))) (ahead-up first (start - first) (omega arith) ∙ back_again first start upto)
    ∙ ap (range_at start) (sizes first start step at upto lt e)

part_round : (first start : ℕ) → first ≤ start → start < circle
    → part_of (circle_from first) (start - first) circle ≡ range_at start (circle - (start - first))
part_round first start upto on =
    part_some (circle_from first) (start - first) circle (omega arith)
    ∙ ap (λ n. range_at n (circle - (start - first))) (ahead-up first (start - first) (omega arith) ∙ back_again first start upto)

abbrev arc_at : Range → Option Silo → Option Silo → RingArc
arc_at range from to = record { range = range; from = from; to = to }

arc_known : (old new : List Point) (part : Range) (start size : ℕ) (from to : Option Silo) → part ≡ range_at start size
    → from ≡ owner_silo old start → to ≡ owner_silo new start → arc_at (range_at start size) from to ≡ arc_of old new part
arc_known old new part start size from to e is_from is_to =
    ap (λ from. arc_at (range_at start size) from to) is_from
    ∙ ap (λ to. arc_at (range_at start size) (owner_silo old start) to) is_to
    ∙ ap (arc_of old new) (sym e)

-- ---- the steps ahead
least_step : (from step size n : ℕ) (steps : List ℕ) → Rises from (step ∷ steps) size → IsStep n (step ∷ steps) → step ≤ n
least_step from step size n steps rising (inl e) = omega arith
least_step from step size n steps rising (inr later) = let lt : step < n = In-above step steps size n rising.1 later in omega arith

later_step : (step n : ℕ) (steps : List ℕ) → step < n → IsStep n (step ∷ steps) → IsStep n steps
later_step step n steps lt (inl e) = absurd (omega arith)
later_step step n steps lt (inr later) = later

module _ (old new : List Point) (rings : AreRings old new) (first start : ℕ) (from to : Option Silo) (old_ahead new_ahead : List Point)
    (arcs : List RingArc) (way : IsUnderway old new first start from to old_ahead new_ahead arcs) where
  old_ahead_there : (p : Point) → In p old_ahead → In p old
  old_ahead_there p there = subst (In p) (sym way.before.whole) (In-right p way.before.behind old_ahead there)

  new_ahead_there : (p : Point) → In p new_ahead → In p new
  new_ahead_there p there = subst (In p) (sym way.after.whole) (In-right p way.after.behind new_ahead there)

  -- a place beyond is that of a point ahead
  beyond_by : (P : ℕ → Type 0) → ((p : Point) → In p old_ahead → P p.place) → ((p : Point) → In p new_ahead → P p.place)
      → All (λ place. start < place → P place) (all_places old new)
  beyond_by P of_old of_new =
      each_place (λ place. start < place → P place) old new
      (λ p there beyond. ⊎_elim (λ behind. absurd (let le = way.before.before p behind in omega arith)) (λ later. of_old p later)
      (In-either p way.before.behind old_ahead (subst (In p) way.before.whole there)))
      (λ p there beyond. ⊎_elim (λ behind. absurd (let le = way.after.before p behind in omega arith)) (λ later. of_new p later)
      (In-either p way.after.behind new_ahead (subst (In p) way.after.whole there)))

  old_rising : Rising point_cmp old_ahead
  old_rising = rising_rest way.before.behind old_ahead (subst (Rising point_cmp) way.before.whole rings.old_rising)

  new_rising : Rising point_cmp new_ahead
  new_rising = rising_rest way.after.behind new_ahead (subst (Rising point_cmp) way.after.whole rings.new_rising)

  -- the next place is beyond
  lowest_beyond : (at : ℕ) → IsLowest old_ahead new_ahead at → start < at
  lowest_beyond at lowest =
      elim lowest.there [
        | inl p ↦ let lt : start < p.0.place = way.before.after p.0 p.1 in let e = p.2 in omega arith
        | inr p ↦ let lt : start < p.0.place = way.after.after p.0 p.1 in let e = p.2 in omega arith
      ]

  lowest_there : (at : ℕ) → IsLowest old_ahead new_ahead at → Contains (all_places old new) at
  lowest_there at lowest = stood old_ahead new_ahead old new at old_ahead_there new_ahead_there lowest.there

  -- the first of the steps ahead leads to the lowest place ahead
  first_step : (at step : ℕ) (steps : List ℕ) → IsLowest old_ahead new_ahead at → Rises (start - first) (step ∷ steps) circle
      → Contains (all_places old new) (first + step) → All (λ place. start < place → IsStep (place - first) (step ∷ steps))
      (all_places old new) → step ≡ at - first
  first_step at step steps lowest rising there all =
      let upto : first ≤ start = way.first_upto in
      let lt : start < at = lowest_beyond at lowest in
      let up : start - first < step = rising.0 in
      let is_step : IsStep (at - first) (step ∷ steps) = All-contains (λ place. start < place → IsStep (place - first) (step ∷ steps)) (all_places old new) at all (lowest_there at lowest) lt in
      let le : step ≤ at - first = least_step (start - first) step circle (at - first) steps rising is_step in
      let ge : at ≤ first + step = All-contains (λ place. start < place → at ≤ place) (all_places old new) (first + step) (beyond_by (λ place. at ≤ place) lowest.old_from lowest.new_from) there (omega arith) in
      omega arith

  -- with the steps by their cases
  go_by : (at : ℕ) (steps : List ℕ) → IsLowest old_ahead new_ahead at → Rises (start - first) steps circle
      → Each (λ step. Contains (all_places old new) (first + step)) steps
      → All (λ place. start < place → IsStep (place - first) steps) (all_places old new)
      → arcs ++ map (arc_of old new) (parts_between (circle_from first) (start - first) steps) ≡ arcs_of old new
      → IsUnderway old new first at (owner_at at old_ahead from) (owner_at at new_ahead to) (passed at old_ahead) (passed at new_ahead)
      (arcs ++ arc_at (range_at start (at - start)) from to ∷ [])
  go_by at [] lowest rising each all whole =
      absurd (All-contains (λ place. start < place → IsStep (place - first) []) (all_places old new) at all (lowest_there at lowest)
      (lowest_beyond at lowest))
  go_by at (step ∷ steps) lowest rising each all whole =
      let upto : first ≤ start = way.first_upto in
      let lt : start < at = lowest_beyond at lowest in
      let below : at < circle = All-contains (λ place. place < circle) (all_places old new) at (places_below old new rings) (lowest_there at lowest) in
      let same : step ≡ at - first = first_step at step steps lowest rising each.0 all in
      let part : Range = part_of (circle_from first) (start - first) step in
      let known : arc_at (range_at start (at - start)) from to ≡ arc_of old new part =
      arc_known old new part start (at - start) from to (part_up first start step at upto way.on_circle lt same) way.before.owner_is
      way.after.owner_is in
      record {
        first_upto = omega arith;
        on_circle = below;
        before = next_side old start at from old_ahead rings.old_on_circle rings.old_rising lt below way.before lowest.old_from;
        after = next_side new start at to new_ahead rings.new_on_circle rings.new_rising lt below way.after lowest.new_from;
        steps = steps;
        rising = subst (λ n. Rises n steps circle) same rising.1;
        each = each.1;
        all = λ k d within beyond. later_step step _ steps (omega arith) (all k d within (omega arith));
        whole =
            append_assoc arcs (arc_at (range_at start (at - start)) from to ∷ [])
            (map (arc_of old new) (parts_between (circle_from first) (at - first) steps))
            ∙ ap (λ arc. arcs ++ arc ∷ map (arc_of old new) (parts_between (circle_from first) (at - first) steps)) known
            ∙ ap (λ n. arcs ++ arc_of old new part ∷ map (arc_of old new) (parts_between (circle_from first) n steps)) (sym same)
            ∙ whole;
      }

  pub underway_next : (at : ℕ) → nearer_place (place_ahead old_ahead) (place_ahead new_ahead) ≡ Some at
      → IsUnderway old new first at (owner_at at old_ahead from) (owner_at at new_ahead to) (passed at old_ahead) (passed at new_ahead)
      (arcs ++ arc_at (range_at start (at - start)) from to ∷ [])
  underway_next at e =
      go_by at way.steps (next_is_lowest old_ahead new_ahead at old_rising new_rising e) way.rising way.each way.all way.whole

  pub next_beyond : (at : ℕ) → nearer_place (place_ahead old_ahead) (place_ahead new_ahead) ≡ Some at → start < at
  next_beyond at e = lowest_beyond at (next_is_lowest old_ahead new_ahead at old_rising new_rising e)

  end_by : (steps : List ℕ) → old_ahead ≡ [] → new_ahead ≡ [] → Rises (start - first) steps circle
      → Each (λ step. Contains (all_places old new) (first + step)) steps
      → arcs ++ map (arc_of old new) (parts_between (circle_from first) (start - first) steps) ≡ arcs_of old new
      → arcs ++ arc_at (range_at start (circle - (start - first))) from to ∷ [] ≡ arcs_of old new
  end_by [] none_old none_new rising each whole =
      ap (λ arc. arcs ++ arc ∷ []) (arc_known old new (part_of (circle_from first) (start - first) circle) start (circle - (start - first))
      from to (part_round first start way.first_upto way.on_circle) way.before.owner_is way.after.owner_is) ∙ whole
  end_by (step ∷ steps) none_old none_new rising each whole =
      let upto : first ≤ start = way.first_upto in
      let up : start - first < step = rising.0 in
      absurd (All-contains (λ place. start < place → ⊥) (all_places old new) (first + step)
      (beyond_by (λ place. ⊥) (λ p there. subst (In p) none_old there) (λ p there. subst (In p) none_new there)) each.0 (omega arith))

  pub underway_end : nearer_place (place_ahead old_ahead) (place_ahead new_ahead) ≡ None
      → arcs ++ arc_at (range_at start (circle - (start - first))) from to ∷ [] ≡ arcs_of old new
  underway_end e = let none = none_ahead old_ahead new_ahead e in end_by way.steps none.0 none.1 way.rising way.each way.whole
