-- One ring on the walk: its points behind and ahead, and the owner where the walk is.
use Rattle.std.proofs.Common.{◌≡◌, ℕ, ◌<◌, ◌≤◌, ◌==◌, Bool, true, false, cond, List, [], ◌∷◌, ◌++◌, All, Option, Some, refl, sym, ◌∙◌, ap, subst, inl, inr, ⊎_elim, arith, append_assoc}
use Rattle.std.specs.Ordering.{nat_cmp, ordering_then, is_gt}
use Rattle.std.specs.declared.cmp.Ordering.{Ordering}
use Rattle.std.specs.declared.cmp.Ordering.TheVariants.{Less}
use Rattle.std.specs.Option.{option_map}
use Rattle.std.proofs.lemmas.Bool.Decides.{nat_tests, Decides-eqb}
use Rattle.std.proofs.lemmas.Cmp.{tied_itself}
use Rattle.hash_ring.proofs.OwnerSearch.{place_upto}
use Rattle.silo_address.specs.Silo.{Silo, silo_cmp}
use Rattle.ring_range.specs.Range.{circle}
use Rattle.hash_ring.specs.declared.Point.{Point}
use Rattle.hash_ring.specs.Point.{IsOnCircle, point_cmp, back}
use Rattle.hash_ring.specs.Owner.{nearness_cmp, owner_of}
use Rattle.hash_ring.proofs.Members.{In, In-right, In-either, All-of}
use Rattle.hash_ring.proofs.StrictOrder.{Rising}
use Rattle.hash_ring.proofs.Nearness.{nearness_total}
use Rattle.hash_ring.proofs.Ownership.{IsOwner-from_nearest, owner_from}
use Rattle.range_moves.specs.Arcs.{owner_silo}
use Rattle.range_moves.specs.Walk.{passed, owner_at}

-- the walk is at a place: the owner there is known, and the points are split behind it and ahead of it
pub record IsSide (points : List Point) (place : ℕ) (owner : Option Silo) (ahead : List Point) : Type 0 where
  pub owner_is : owner ≡ owner_silo points place
  pub behind : List Point
  pub whole : points ≡ behind ++ ahead
  pub before : (p : Point) → In p behind → p.place ≤ place
  pub after : (p : Point) → In p ahead → place < p.place

-- ---- points in order
pub head_least : (p : Point) (ps : List Point) → Rising point_cmp (p ∷ ps) → (q : Point) → In q (p ∷ ps) → p.place ≤ q.place
head_least p ps rising q (inl here) = omega (arith, ap (λ (p : Point). p.place) here)
head_least p ps rising q (inr later) = place_upto p q (rising.0 q later)

pub rising_rest : (xs ys : List Point) → Rising point_cmp (xs ++ ys) → Rising point_cmp ys
rising_rest [] ys rising = rising
rising_rest (x ∷ xs) ys rising = rising_rest xs ys rising.1

near_ahead : (at place : ℕ) → at ≤ place → place < circle → nat_cmp (back at at) (back at place) ≡ nat_cmp at place
near_ahead at place le lt = grind (arith, nat_tests)

near_behind : (at place : ℕ) → place < at → nat_cmp (back at at) (back at place) ≡ Less
near_behind at place lt = grind (arith, nat_tests)

abbrev by_first : Point → Point → Ordering → Ordering
by_first p q r = ordering_then r (ordering_then (silo_cmp p.silo q.silo) (nat_cmp p.index q.index))

near_first : (at : ℕ) (p q : Point) → p.place ≡ at → nearness_cmp at p q ≡ by_first p q (nat_cmp (back at at) (back at q.place))
near_first at p q e = ap (λ n. by_first p q (nat_cmp (back at n) (back at q.place))) e

order_first : (at : ℕ) (p q : Point) → p.place ≡ at → point_cmp p q ≡ by_first p q (nat_cmp at q.place)
order_first at p q e = ap (λ n. by_first p q (nat_cmp n q.place)) e

pub first_owns : (behind : List Point) (p : Point) (rest : List Point) (at : ℕ) → p.place ≡ at → at < circle
    → All IsOnCircle (behind ++ p ∷ rest) → Rising point_cmp (p ∷ rest) → ((q : Point) → In q behind → q.place < at)
    → owner_of (behind ++ p ∷ rest) at ≡ Some p
first_owns behind p rest at here below on_circle rising before =
    owner_from (behind ++ p ∷ rest) at p below on_circle (IsOwner-from_nearest at (behind ++ p ∷ rest) p (record {
      there = In-right p behind (p ∷ rest) (inl refl);
      each = λ q there. ⊎_elim
          (λ in_behind. ap is_gt (near_first at p q here ∙ ap (by_first p q) (near_behind at q.place (before q in_behind))))
          (λ in_rest. at_or_after q there in_rest)
          (In-either q behind (p ∷ rest) there);
    }))
  where
    at_or_after : (q : Point) → In q (behind ++ p ∷ rest) → In q (p ∷ rest) → is_gt (nearness_cmp at p q) ≡ false
    at_or_after q there (inl same) = subst (λ q. is_gt (nearness_cmp at p q) ≡ false) same (ap is_gt (tied_itself (nearness_total at) p))
    at_or_after q there (inr later) =
        let upto : p.place ≤ q.place = place_upto p q (rising.0 q later) in
        let on : q.place < circle = All-of IsOnCircle (behind ++ p ∷ rest) q on_circle there in
        ap is_gt (near_first at p q here ∙ ap (by_first p q) (near_ahead at q.place (omega arith) on) ∙ sym (order_first at p q here)
        ∙ rising.0 q later)

-- ---- passing the points at a place
pub record IsPassed (at : ℕ) (points : List Point) : Type 0 where
  pub tied : List Point
  pub whole : points ≡ tied ++ passed at points
  pub here : (p : Point) → In p tied → p.place ≡ at
  pub after : (p : Point) → In p (passed at points) → at < p.place

all_passed : (at : ℕ) → IsPassed at []
all_passed at = record { tied = []; whole = refl; here = λ p none. absurd none; after = λ p none. absurd none }

pub pass : (at : ℕ) (points : List Point) → Rising point_cmp points → ((p : Point) → In p points → at ≤ p.place) → IsPassed at points
pass at [] rising from = all_passed at
pass at (p ∷ ps) rising from = by (p.place == at) refl (pass at ps rising.1 (λ q there. from q (inr there)))
  where
    step : Bool → List Point
    step same = cond same (passed at ps) (p ∷ ps)

    place_of : {x : Point} → p ≡ x → p.place ≡ x.place
    place_of e = ap (λ (p : Point). p.place) e

    by : (same : Bool) → (p.place == at) ≡ same → IsPassed at ps → IsPassed at (p ∷ ps)
    by true e rest =
        let here : p.place ≡ at = (Decides-eqb p.place at).0 e in
        let now : passed at (p ∷ ps) ≡ passed at ps = ap (λ b. cond b (passed at ps) (p ∷ ps)) e in
        record {
          tied = p ∷ rest.tied;
          whole = ap (λ l. p ∷ l) rest.whole ∙ ap (λ l. p ∷ rest.tied ++ l) (sym now);
          here = λ q there. ⊎_elim (λ same. sym (place_of same) ∙ here) (λ later. rest.here q later) there;
          after = λ q there. rest.after q (subst (In q) now there);
        }
    by false e rest =
        let now : passed at (p ∷ ps) ≡ p ∷ ps = ap (λ b. cond b (passed at ps) (p ∷ ps)) e in
        let upto : at ≤ p.place = from p (inl refl) in
        let beyond : at < p.place = grind (arith, nat_tests) in
        record {
          tied = [];
          whole = sym now;
          here = λ q none. absurd none;
          after = λ q there. let le : p.place ≤ q.place = head_least p ps rising q (subst (In q) now there) in omega arith;
        }

-- ---- from one place to the next
owner_here : (at : ℕ) (points behind ahead : List Point) (owner : Option Silo) → points ≡ behind ++ ahead → at < circle
    → All IsOnCircle points → Rising point_cmp ahead → ((p : Point) → In p behind → p.place < at)
    → ((p : Point) → In p ahead → at ≤ p.place) → (((p : Point) → In p ahead → at < p.place) → owner ≡ owner_silo points at)
    → owner_at at ahead owner ≡ owner_silo points at
owner_here at points behind [] owner whole below on_circle rising before from stays = stays (λ p none. absurd none)
owner_here at points behind (p ∷ rest) owner whole below on_circle rising before from stays = by (p.place == at) refl
  where
    by : (same : Bool) → (p.place == at) ≡ same → cond same (Some p.silo) owner ≡ owner_silo points at
    by true e =
        let here : p.place ≡ at = (Decides-eqb p.place at).0 e in
        let owns : owner_of (behind ++ p ∷ rest) at ≡ Some p = first_owns behind p rest at here below (subst (All IsOnCircle) whole on_circle) rising before in
        sym (ap (option_map (λ (p : Point). p.silo)) (ap (λ points. owner_of points at) whole ∙ owns))
    by false e =
        let upto : at ≤ p.place = from p (inl refl) in
        let beyond : at < p.place = grind (arith, nat_tests) in
        stays (λ q there. let le : p.place ≤ q.place = head_least p rest rising q there in omega arith)

-- the side at a place, no point being passed over
pub side_at : (at : ℕ) (points behind ahead : List Point) (owner : Option Silo) → points ≡ behind ++ ahead → at < circle
    → All IsOnCircle points → Rising point_cmp ahead → ((p : Point) → In p behind → p.place < at)
    → ((p : Point) → In p ahead → at ≤ p.place) → (((p : Point) → In p ahead → at < p.place) → owner ≡ owner_silo points at)
    → IsSide points at (owner_at at ahead owner) (passed at ahead)
side_at at points behind ahead owner whole below on_circle rising before from stays =
    let split = pass at ahead rising from in
    record {
      owner_is = owner_here at points behind ahead owner whole below on_circle rising before from stays;
      behind = behind ++ split.tied;
      whole = whole ∙ ap (λ l. behind ++ l) split.whole ∙ sym (append_assoc behind split.tied (passed at ahead));
      before =
          λ p there. ⊎_elim (λ left. let lt = before p left in omega arith) (λ right. let e = split.here p right in omega arith)
          (In-either p behind split.tied there);
      after = split.after;
    }
