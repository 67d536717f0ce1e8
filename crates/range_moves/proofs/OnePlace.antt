-- Where all places are one, the circle isn't cut.
use Rattle.std.proofs.Common.{◌≡◌, ℕ, ◌<◌, ◌&&◌, nat_lt, min, cond, List, [], ◌∷◌, map, fold, All, Contains, refl, ◌∙◌, ap, arith}
use Rattle.std.specs.BTreeSet.{insert_key}
use Rattle.std.specs.Ordering.{nat_cmp}
use Rattle.std.proofs.lemmas.Bool.Decides.{nat_tests}
use Rattle.std.proofs.lemmas.List.Elements.{All-head, All-tail, All-contains}
use Rattle.ring_range.specs.Range.{circle, Range, distance, ahead}
use Rattle.ring_range.specs.Cut.{with_cut, cut_steps, cut_parts, parts_between}
use Rattle.ring_range.proofs.Circle.{distance-itself}
use Rattle.hash_ring.specs.declared.Point.{Point}
use Rattle.range_moves.specs.Arcs.{all_places, circle_cut_at, arc_of, arcs_of}
use Rattle.range_moves.proofs.Lowest.{low_there}
use Rattle.range_moves.proofs.Cuts.{circle_from}

no_cut : (start place : ℕ) (steps : List ℕ) → place ≡ start → with_cut (circle_from start) steps place ≡ steps
no_cut start place steps e =
    let none : distance start place ≡ 0 = ap (distance start) e ∙ distance-itself start in
    ap (λ n. cond (nat_lt 0 n && nat_lt n circle) (insert_key nat_cmp steps n) steps) none

no_cuts : (start : ℕ) (places : List ℕ) → All (λ place. place ≡ start) places → cut_steps (circle_from start) places ≡ []
no_cuts start [] same = refl
no_cuts start (place ∷ places) same =
    ap (λ steps. fold (with_cut (circle_from start)) steps places)
    (no_cut start place [] (All-head (λ place. place ≡ start) place places same))
    ∙ no_cuts start places (All-tail (λ place. place ≡ start) place places same)

from_itself : (start : ℕ) → start < circle → ahead start 0 ≡ start
from_itself start on = grind (arith, nat_tests)

uncut : (place start : ℕ) (places : List ℕ) → start < circle → All (λ other. other ≡ start) (place ∷ places)
    → circle_cut_at (place ∷ places) ≡ circle_from start ∷ []
unfolding cut_parts
uncut place start places on same =
    let low : fold min place places ≡ start = All-contains (λ other. other ≡ start) (place ∷ places) (fold min place places) same (low_there place places) in
    ap (λ n. parts_between (circle_from n) 0 (cut_steps (circle_from n) (place ∷ places))) low
    ∙ ap (parts_between (circle_from start) 0) (no_cuts start (place ∷ places) same)
    ∙ ap (λ n. circle_of n ∷ []) (from_itself start on)
  where
    circle_of : ℕ → Range
    circle_of n = record { start = n; size = circle }

none_there : (place : ℕ) → ¬ (Contains [] place)
none_there place there = let lt = there.1 in omega arith

uncut_at : (place : ℕ) (places : List ℕ) → place < circle → Contains places place → All (λ other. other ≡ place) places
    → circle_cut_at places ≡ circle_from place ∷ []
uncut_at place [] on there same = absurd (none_there place there)
uncut_at place (one ∷ places) on there same = uncut one place places on same

pub one_arc : (old new : List Point) (place : ℕ) → place < circle → Contains (all_places old new) place
    → All (λ other. other ≡ place) (all_places old new) → arcs_of old new ≡ arc_of old new (circle_from place) ∷ []
one_arc old new place on there same = ap (map (arc_of old new)) (uncut_at place (all_places old new) on there same)
