-- The walk on its way: the arcs so far, and those that the steps ahead of it make, are all the arcs.
use Rattle.std.proofs.Common.{◌≡◌, ◌⊎◌, ℕ, ◌+◌, ◌-◌, ◌<◌, ◌≤◌, min, List, [], ◌∷◌, ◌++◌, map, fold, get_or, All, Contains, Option, Some, refl, sym, ◌∙◌, ap, subst, inl, inr, ⊎_elim, arith}
use Rattle.std.proofs.lemmas.Bool.Decides.{nat_tests}
use Rattle.std.proofs.lemmas.List.Elements.{All-contains, All-map, All-head}
use Rattle.std.specs.Option.{option_map}
use Rattle.silo_address.specs.Silo.{Silo}
use Rattle.ring_range.specs.Range.{circle, Range, distance, ahead}
use Rattle.ring_range.specs.Cut.{cut_steps, cut_parts, parts_between}
use Rattle.ring_range.proofs.Circle.{distance-up}
use Rattle.ring_range.proofs.Steps.{Rises, In as IsStep, Each, Each-cut_steps, In-cut_steps, Rises-cut_steps}
use Rattle.hash_ring.specs.declared.Point.{Point}
use Rattle.hash_ring.specs.Point.{IsOnCircle, point_cmp}
use Rattle.hash_ring.proofs.Members.{In, In-left, In-right, In-either, All-of, All-from_each, Contains-from_In, In-map}
use Rattle.hash_ring.proofs.StrictOrder.{Rising}
use Rattle.range_moves.specs.declared.arc.RingArc.{RingArc}
use Rattle.range_moves.specs.Arcs.{owner_silo, all_places, circle_cut_at, arc_of, arcs_of}
use Rattle.range_moves.specs.Walk.{highest, place_ahead, nearer_place, owner_at, passed}
use Rattle.range_moves.proofs.Owners.{IsClear, same_owner}
use Rattle.range_moves.proofs.Lowest.{low_below, low_there}
use Rattle.range_moves.proofs.Cuts.{circle_from, ahead-up, circle_steps_stay, low_on_circle}
use Rattle.range_moves.proofs.Between.{places_on_circle}
use Rattle.range_moves.proofs.Sides.{IsSide, side_at, rising_rest}
use Rattle.range_moves.proofs.Nearest.{StandsAt, IsLowest, next_is_lowest}

-- two rings, their points in order and on the circle
pub record AreRings (old new : List Point) : Type 0 where
  pub old_rising : Rising point_cmp old
  pub new_rising : Rising point_cmp new
  pub old_on_circle : All IsOnCircle old
  pub new_on_circle : All IsOnCircle new

pub record IsUnderway (old new : List Point) (first start : ℕ) (from to : Option Silo) (old_ahead new_ahead : List Point)
    (arcs : List RingArc) : Type 0 where
  pub first_upto : first ≤ start
  pub on_circle : start < circle
  pub before : IsSide old start from old_ahead
  pub after : IsSide new start to new_ahead
  -- the steps from the first place to the cuts ahead
  pub steps : List ℕ
  pub rising : Rises (start - first) steps circle
  pub each : Each (λ step. Contains (all_places old new) (first + step)) steps
  pub all : All (λ place. start < place → IsStep (place - first) steps) (all_places old new)
  pub whole : arcs ++ map (arc_of old new) (parts_between (circle_from first) (start - first) steps) ≡ arcs_of old new

-- ---- places and points
place_of_old : (old new : List Point) (p : Point) → In p old → Contains (all_places old new) p.place
place_of_old old new p there =
    Contains-from_In p.place (all_places old new) (In-map (λ (p : Point). p.place) p (old ++ new) (In-left p old new there))

place_of_new : (old new : List Point) (p : Point) → In p new → Contains (all_places old new) p.place
place_of_new old new p there =
    Contains-from_In p.place (all_places old new) (In-map (λ (p : Point). p.place) p (old ++ new) (In-right p old new there))

pub each_place : (P : ℕ → Type 0) (old new : List Point) → ((p : Point) → In p old → P p.place) → ((p : Point) → In p new → P p.place)
    → All P (all_places old new)
each_place P old new of_old of_new =
    All-map P (λ (p : Point). p.place) (old ++ new) (All-from_each (λ (p : Point). P p.place) (old ++ new)
    (λ p there. ⊎_elim (of_old p) (of_new p) (In-either p old new there)))

-- ---- the owners stay between places
clear_behind : (prev at place : ℕ) → prev < at → at < circle → place ≤ prev
    → IsClear (record { start = prev; size = (at - prev) + 1 }) place
clear_behind prev at place lt below upto = (omega arith, λ inside. inside_none prev at place lt below upto inside.0 inside.1)
  where
    inside_none : (prev at place : ℕ) → prev < at → at < circle → place ≤ prev → 0 < distance prev place
        → distance prev place < (at - prev) + 1 → ⊥
    inside_none prev at place lt below upto up short = grind (arith, nat_tests)

clear_ahead : (prev at place : ℕ) → prev < at → place < circle → at < place
    → IsClear (record { start = prev; size = (at - prev) + 1 }) place
clear_ahead prev at place lt on beyond = (on, λ inside. inside_none prev at place lt beyond inside.0 inside.1)
  where
    inside_none : (prev at place : ℕ) → prev < at → at < place → 0 < distance prev place → distance prev place < (at - prev) + 1 → ⊥
    inside_none prev at place lt beyond up short = grind (arith, nat_tests)

stays_between : (points : List Point) (prev at : ℕ) (owner : Option Silo) (ahead : List Point) → All IsOnCircle points → prev < at
    → at < circle → IsSide points prev owner ahead → ((p : Point) → In p ahead → at < p.place) → owner ≡ owner_silo points at
stays_between points prev at owner ahead on_circle lt below side beyond =
    let range : Range = record { start = prev; size = (at - prev) + 1 } in
    let clear : All (λ (p : Point). IsClear range p.place) points = All-from_each (λ (p : Point). IsClear range p.place) points (λ p there. clear_point p there) in
    side.owner_is ∙ sym (ap (option_map (λ (p : Point). p.silo))
    (same_owner range at (record { start_below = omega arith; size_within = omega arith }) below (held prev at lt) points clear))
  where
    held : (prev at : ℕ) → prev < at → distance prev at < (at - prev) + 1
    held prev at lt = grind (arith, nat_tests)

    clear_point : (p : Point) → In p points → IsClear (record { start = prev; size = (at - prev) + 1 }) p.place
    clear_point p there =
        ⊎_elim (λ behind. clear_behind prev at p.place lt below (side.before p behind))
        (λ ahead. clear_ahead prev at p.place lt (All-of IsOnCircle points p on_circle there) (beyond p ahead))
        (In-either p side.behind ahead (subst (In p) side.whole there))

-- before the first place the highest hash's owner owns
clear_round : (at place : ℕ) → at < place → place < circle → IsClear (record { start = highest; size = at + 2 }) place
clear_round at place beyond on = (on, λ inside. inside_none at place beyond on inside.0 inside.1)
  where
    inside_none : (at place : ℕ) → at < place → place < circle → 0 < distance highest place → distance highest place < at + 2 → ⊥
    inside_none at place beyond on up short = grind (arith, nat_tests)

stays_round : (points : List Point) (at : ℕ) → All IsOnCircle points → at < circle → ((p : Point) → In p points → at < p.place)
    → owner_silo points highest ≡ owner_silo points at
stays_round [] at on_circle below beyond = refl
stays_round (q ∷ qs) at on_circle below beyond =
    let range : Range = record { start = highest; size = at + 2 } in
    let above : at < q.place = beyond q (inl refl) in
    let on : q.place < circle = All-head IsOnCircle q qs on_circle in
    let clear : All (λ (p : Point). IsClear range p.place) (q ∷ qs) = All-from_each (λ (p : Point). IsClear range p.place) (q ∷ qs) (λ p there. clear_round at p.place (beyond p there) (All-of IsOnCircle (q ∷ qs) p on_circle there)) in
    sym (ap (option_map (λ (p : Point). p.silo)) (same_owner range at (record { start_below = omega arith; size_within = omega arith })
    below (held at (omega arith)) (q ∷ qs) clear))
  where
    held : (at : ℕ) → at + 1 < circle → distance highest at < at + 2
    held at lt = grind (arith, nat_tests)

-- ---- the first place
pub first_side : (points : List Point) (at : ℕ) (owner : Option Silo) → owner ≡ owner_silo points highest → at < circle
    → All IsOnCircle points → Rising point_cmp points → ((p : Point) → In p points → at ≤ p.place)
    → IsSide points at (owner_at at points owner) (passed at points)
first_side points at owner e below on_circle rising from =
    side_at at points [] points owner refl below on_circle rising (λ p none. absurd none) from
    (λ beyond. e ∙ stays_round points at on_circle below beyond)

pub next_side : (points : List Point) (prev at : ℕ) (owner : Option Silo) (ahead : List Point) → All IsOnCircle points
    → Rising point_cmp points → prev < at → at < circle → IsSide points prev owner ahead → ((p : Point) → In p ahead → at ≤ p.place)
    → IsSide points at (owner_at at ahead owner) (passed at ahead)
next_side points prev at owner ahead on_circle rising lt below side from =
    side_at at points side.behind ahead owner side.whole below on_circle
    (rising_rest side.behind ahead (subst (Rising point_cmp) side.whole rising))
    (λ p there. let le = side.before p there in omega arith) from (stays_between points prev at owner ahead on_circle lt below side)

low_is : (place : ℕ) (places : List ℕ) (first : ℕ) → All (λ p. first ≤ p) (place ∷ places) → Contains (place ∷ places) first
    → fold min place places ≡ first
low_is place places first below there =
    let low : ℕ = fold min place places in
    let le : first ≤ low = All-contains (λ p. first ≤ p) (place ∷ places) low below (low_there place places) in
    let ge : low ≤ first = All-contains (λ p. low ≤ p) (place ∷ places) first (low_below place places) there in
    omega arith

pub stood : (old new : List Point) (all_old all_new : List Point) (place : ℕ) → ((p : Point) → In p old → In p all_old)
    → ((p : Point) → In p new → In p all_new) → StandsAt place old ⊎ StandsAt place new → Contains (all_places all_old all_new) place
stood old new all_old all_new place of_old of_new (inl at) =
    subst (Contains (all_places all_old all_new)) at.2 (place_of_old all_old all_new at.0 (of_old at.0 at.1))
stood old new all_old all_new place of_old of_new (inr at) =
    subst (Contains (all_places all_old all_new)) at.2 (place_of_new all_old all_new at.0 (of_new at.0 at.1))

each_sum : (P : ℕ → Type 0) (low : ℕ) (steps : List ℕ) → Each (λ step. low + step < circle) steps → Each (λ step. P (ahead low step)) steps
    → Each (λ step. P (low + step)) steps
each_sum P low [] stay each = tt
each_sum P low (step ∷ steps) stay each = (subst P (ahead-up low step stay.0) each.0, each_sum P low steps stay.1 each.1)

step_to : (low place : ℕ) (steps : List ℕ) → place < circle
    → (0 < distance low place → distance low place < circle → IsStep (distance low place) steps) → low < place → IsStep (place - low) steps
step_to low place steps below there lt =
    let e : distance low place ≡ place - low = distance-up low place (omega arith) in
    subst (λ n. IsStep n steps) e (there (omega arith) (omega arith))

module _ (old new : List Point) (rings : AreRings old new) where
  pub places_below : All (λ place. place < circle) (all_places old new)
  places_below = places_on_circle old new rings.old_on_circle rings.new_on_circle

  -- the walk at its first place, where the circle is cut at some places
  cut_at_low : (place : ℕ) (places : List ℕ) → all_places old new ≡ place ∷ places
      → (from to : Option Silo) (old_ahead new_ahead : List Point) → IsSide old (fold min place places) from old_ahead
      → IsSide new (fold min place places) to new_ahead
      → IsUnderway old new (fold min place places) (fold min place places) from to old_ahead new_ahead []
  unfolding cut_parts
  cut_at_low place places are from to old_ahead new_ahead before after =
      let low : ℕ = fold min place places in
      let full : Range = circle_from low in
      let below : All (λ p. p < circle) (place ∷ places) = subst (All (λ p. p < circle)) are places_below in
      let on : low < circle = low_on_circle place places below in
      let none : 0 ≡ low - low = omega arith in
      let stay : Each (λ step. low + step < circle) (cut_steps full (place ∷ places)) = circle_steps_stay place places below in
      record {
        first_upto = omega arith;
        on_circle = on;
        before = before;
        after = after;
        steps = cut_steps full (place ∷ places);
        rising = subst (λ n. Rises n (cut_steps full (place ∷ places)) circle) none (Rises-cut_steps full (place ∷ places) (omega arith));
        each =
            each_sum (Contains (all_places old new)) low (cut_steps full (place ∷ places)) stay
            (subst (λ ps. Each (λ step. Contains ps (ahead low step)) (cut_steps full (place ∷ places))) (sym are)
            (Each-cut_steps full (place ∷ places) on below));
        all =
            subst (All (λ p. low < p → IsStep (p - low) (cut_steps full (place ∷ places)))) (sym are)
            (λ k d lt. step_to low (get_or (place ∷ places) k d) (cut_steps full (place ∷ places)) (below k d lt)
            (In-cut_steps full (place ∷ places) k d lt));
        whole =
            ap (λ n. map (arc_of old new) (parts_between full n (cut_steps full (place ∷ places)))) (sym none)
            ∙ sym (ap (λ ps. map (arc_of old new) (circle_cut_at ps)) are);
      }

  cut_at_first : (place : ℕ) (places : List ℕ) (first : ℕ) → all_places old new ≡ place ∷ places → fold min place places ≡ first
      → (from to : Option Silo) (old_ahead new_ahead : List Point) → IsSide old first from old_ahead → IsSide new first to new_ahead
      → IsUnderway old new first first from to old_ahead new_ahead []
  cut_at_first place places first are low from to old_ahead new_ahead =
      subst (λ at. IsSide old at from old_ahead → IsSide new at to new_ahead → IsUnderway old new at at from to old_ahead new_ahead []) low
      (cut_at_low place places are from to old_ahead new_ahead)

  -- the walk begins at the lowest place of both rings
  begun : (places : List ℕ) (first : ℕ) → all_places old new ≡ places → IsLowest old new first → (from to : Option Silo)
      → from ≡ owner_silo old highest → to ≡ owner_silo new highest
      → IsUnderway old new first first (owner_at first old from) (owner_at first new to) (passed first old) (passed first new) []
  begun [] first are lowest from to is_from is_to =
      absurd (none_there first (subst (λ ps. Contains ps first) are
      (stood old new old new first (λ p there. there) (λ p there. there) lowest.there)))
    where
      none_there : (n : ℕ) → ¬ (Contains [] n)
      none_there n there = let lt = there.1 in omega arith
  begun (place ∷ places) first are lowest from to is_from is_to =
      let there : Contains (all_places old new) first = stood old new old new first (λ p there. there) (λ p there. there) lowest.there in
      let below : first < circle = All-contains (λ p. p < circle) (all_places old new) first places_below there in
      let least : All (λ p. first ≤ p) (all_places old new) = each_place (λ p. first ≤ p) old new lowest.old_from lowest.new_from in
      let low : fold min place places ≡ first = low_is place places first (subst (All (λ p. first ≤ p)) are least) (subst (λ ps. Contains ps first) are there) in
      cut_at_first place places first are low (owner_at first old from) (owner_at first new to) (passed first old) (passed first new)
      (first_side old first from is_from below rings.old_on_circle rings.old_rising lowest.old_from)
      (first_side new first to is_to below rings.new_on_circle rings.new_rising lowest.new_from)

  pub underway_first : (first : ℕ) (from to : Option Silo) → from ≡ owner_silo old highest → to ≡ owner_silo new highest
      → nearer_place (place_ahead old) (place_ahead new) ≡ Some first
      → IsUnderway old new first first (owner_at first old from) (owner_at first new to) (passed first old) (passed first new) []
  underway_first first from to is_from is_to e =
      begun (all_places old new) first refl (next_is_lowest old new first rings.old_rising rings.new_rising e) from to is_from is_to
