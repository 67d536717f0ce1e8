-- The next place is the lowest of those ahead on either ring.
use Rattle.std.proofs.Common.{◌≡◌, ◌⊎◌, ℕ, ◌≤◌, min, List, [], ◌∷◌, Some, None, refl, inl, inr, ◌∙◌, arith}
use Rattle.std.proofs.lemmas.Option.{same_Some}
use Rattle.hash_ring.specs.declared.Point.{Point}
use Rattle.hash_ring.specs.Point.{point_cmp}
use Rattle.hash_ring.proofs.Members.{In}
use Rattle.hash_ring.proofs.StrictOrder.{Rising}
use Rattle.range_moves.specs.Walk.{place_ahead, nearer_place}
use Rattle.range_moves.proofs.Sides.{head_least}

-- a point there stands at the place
abbrev pub StandsAt : ℕ → List Point → Type 0
StandsAt place points = (p : Point) × In p points × (p.place ≡ place)

-- the place is the lowest at which either has a point
pub record IsLowest (old new : List Point) (place : ℕ) : Type 0 where
  pub old_from : (p : Point) → In p old → place ≤ p.place
  pub new_from : (p : Point) → In p new → place ≤ p.place
  pub there : StandsAt place old ⊎ StandsAt place new

pub min_is : (n m : ℕ) → (n ≡ min n m) ⊎ (m ≡ min n m)
min_is n m = grind arith

lowest_of_two : (a b : Point) (old new : List Point) → Rising point_cmp (a ∷ old) → Rising point_cmp (b ∷ new)
    → IsLowest (a ∷ old) (b ∷ new) (min a.place b.place)
lowest_of_two a b old new rise_old rise_new = record {
  old_from = λ p there. let le : a.place ≤ p.place = head_least a old rise_old p there in omega arith;
  new_from = λ p there. let le : b.place ≤ p.place = head_least b new rise_new p there in omega arith;
  there = elim (min_is a.place b.place) [ inl e ↦ inl (a, inl refl, e) | inr e ↦ inr (b, inl refl, e) ];
}

lowest_at : (old new : List Point) (low place : ℕ) → low ≡ place → IsLowest old new low → IsLowest old new place
lowest_at old new low place e lowest = record {
  old_from = λ p there. let le : low ≤ p.place = lowest.old_from p there in omega arith;
  new_from = λ p there. let le : low ≤ p.place = lowest.new_from p there in omega arith;
  there = elim lowest.there [ inl p ↦ inl (p.0, p.1, p.2 ∙ e) | inr p ↦ inr (p.0, p.1, p.2 ∙ e) ];
}

lowest_of_old : (a : Point) (old : List Point) → Rising point_cmp (a ∷ old) → IsLowest (a ∷ old) [] a.place
lowest_of_old a old rising = record {
  old_from = λ p there. head_least a old rising p there;
  new_from = λ p none. absurd none;
  there = inl (a, inl refl, refl);
}

lowest_of_new : (b : Point) (new : List Point) → Rising point_cmp (b ∷ new) → IsLowest [] (b ∷ new) b.place
lowest_of_new b new rising = record {
  old_from = λ p none. absurd none;
  new_from = λ p there. head_least b new rising p there;
  there = inr (b, inl refl, refl);
}

pub next_is_lowest : (old new : List Point) (place : ℕ) → Rising point_cmp old → Rising point_cmp new
    → nearer_place (place_ahead old) (place_ahead new) ≡ Some place → IsLowest old new place
next_is_lowest [] [] place rise_old rise_new e = cc
next_is_lowest [] (b ∷ new) place rise_old rise_new e =
    lowest_at [] (b ∷ new) b.place place (same_Some b.place place e) (lowest_of_new b new rise_new)
next_is_lowest (a ∷ old) [] place rise_old rise_new e =
    lowest_at (a ∷ old) [] a.place place (same_Some a.place place e) (lowest_of_old a old rise_old)
next_is_lowest (a ∷ old) (b ∷ new) place rise_old rise_new e =
    lowest_at (a ∷ old) (b ∷ new) (min a.place b.place) place (same_Some (min a.place b.place) place e)
    (lowest_of_two a b old new rise_old rise_new)

pub none_ahead : (old new : List Point) → nearer_place (place_ahead old) (place_ahead new) ≡ None → (old ≡ []) × (new ≡ [])
none_ahead [] [] e = (refl, refl)
none_ahead [] (b ∷ new) e = cc
none_ahead (a ∷ old) [] e = cc
none_ahead (a ∷ old) (b ∷ new) e = cc
