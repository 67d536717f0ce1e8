-- The arcs are the parts of the circle, each with its owners.
use Rattle.std.proofs.Common.{ℕ, ◌+◌, ◌<◌, List, [], ◌∷◌, ◌++◌, cond, All, Contains, IsTrue, ◌∙◌, ap}
use Rattle.std.proofs.lemmas.Bool.{ltb-true}
use Rattle.std.proofs.lemmas.List.Elements.{All-nil, All-cons, All-head, All-tail, All-map, All-append}
use Rattle.std.proofs.lemmas.List.Folds.{fold-map}
use Rattle.std.specs.Option.{option_map}
use Rattle.ring_range.specs.Range.{circle, Range, IsRange, EachHash, holds, distance}
use Rattle.ring_range.specs.Cut.{IsInside}
use Rattle.hash_ring.specs.declared.Point.{Point}
use Rattle.hash_ring.specs.Point.{IsOnCircle}
use Rattle.range_moves.specs.declared.arc.RingArc.{RingArc}
use Rattle.range_moves.specs.Arcs.{all_places, circle_cut_at, arc_of, arcs_of, HasOwners, AreArcs}
use Rattle.range_moves.proofs.Lists.{AllPairs-map}
use Rattle.range_moves.proofs.Owners.{IsClear, same_owner}
use Rattle.range_moves.proofs.Cuts.{parts_whole}

-- what holds of all places holds of those of each ring
left_places : (P : ℕ → Type 0) (one other : List Point) → All P (all_places one other) → All (λ p. P p.place) one
left_places P [] other all = All-nil (λ (p : Point). P p.place)
left_places P (p ∷ one) other all =
    All-cons (λ (p : Point). P p.place) p one (All-head P p.place (all_places one other) all)
    (left_places P one other (All-tail P p.place (all_places one other) all))

right_places : (P : ℕ → Type 0) (one other : List Point) → All P (all_places one other) → All (λ p. P p.place) other
right_places P [] [] all = All-nil (λ (p : Point). P p.place)
right_places P [] (p ∷ other) all =
    All-cons (λ (p : Point). P p.place) p other (All-head P p.place (all_places [] other) all)
    (right_places P [] other (All-tail P p.place (all_places [] other) all))
right_places P (p ∷ one) other all = right_places P one other (All-tail P p.place (all_places one other) all)

pub places_on_circle : (old new : List Point) → All IsOnCircle old → All IsOnCircle new → All (λ place. place < circle) (all_places old new)
places_on_circle old new o n = All-map (λ place. place < circle) (λ (p : Point). p.place) (old ++ new) (All-append IsOnCircle old new o n)

clear_points : (range : Range) (points : List Point) → All IsOnCircle points → All (λ p. ¬ (IsInside range p.place)) points
    → All (λ p. IsClear range p.place) points
clear_points range points on out = λ k d lt. (on k d lt, out k d lt)

-- the owners of a part's hashes
part_owners : (old new : List Point) → All IsOnCircle old → All IsOnCircle new → (part : Range) → IsRange part
    → All (λ place. ¬ (IsInside part place)) (all_places old new)
    → EachHash (λ hash. IsTrue (holds part hash) → HasOwners old new (arc_of old new part) hash)
part_owners old new o n part ok uncut hash h held =
    let lt : distance part.start hash < part.size = ltb-true (distance part.start hash) part.size held in
    record {
      before =
          ap (option_map (λ (p : Point). p.silo)) (same_owner part hash ok h lt old
          (clear_points part old o (left_places (λ place. ¬ (IsInside part place)) old new uncut)));
      after =
          ap (option_map (λ (p : Point). p.silo)) (same_owner part hash ok h lt new
          (clear_points part new n (right_places (λ place. ¬ (IsInside part place)) old new uncut)));
    }

pub arcs_whole : (old new : List Point) → All IsOnCircle old → All IsOnCircle new → AreArcs old new (arcs_of old new)
arcs_whole old new o n =
    let parts : List Range = circle_cut_at (all_places old new) in
    let whole = parts_whole (all_places old new) (places_on_circle old new o n) in
    let f : Range → RingArc = arc_of old new in
    record {
      once = λ hash h. fold-map (λ count (arc : RingArc). count + cond (holds arc.range hash) 1 0) f 0 parts ∙ whole.once hash h;
      owners =
          All-map (λ (arc : RingArc). EachHash (λ hash. IsTrue (holds arc.range hash) → HasOwners old new arc hash)) f parts
          (λ k d lt. part_owners old new o n _ (whole.ranges k d lt) (whole.uncut k d lt));
      ranges = All-map (λ (arc : RingArc). IsRange arc.range) f parts whole.ranges;
      present = All-map (λ (arc : RingArc). 0 < arc.range.size) f parts whole.present;
      in_order = AllPairs-map (λ (arc later : RingArc). arc.range.start < later.range.start) f parts whole.in_order;
      begins = All-map (λ (arc : RingArc). Contains (all_places old new) arc.range.start) f parts whole.begins;
      uncut = All-map (λ (arc : RingArc). All (λ place. ¬ (IsInside arc.range place)) (all_places old new)) f parts whole.uncut;
    }
