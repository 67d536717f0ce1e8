-- The pieces after every sight are what the silo owns.
use Rattle.std.proofs.Common.{refl, subst, ℕ}
use Rattle.std.specs.Prelude.{Bool, true, false, cond, not, ◌&&◌, ◌==◌, nat_lt, length, All, Ok, Err, IfOk}
use Rattle.membership_view.specs.View.{ViewValue}
use Rattle.hash_ring.specs.Point.{IsOnCircle}
use Rattle.hash_ring.specs.Places.{PlacesValue, IsPlaces}
use Rattle.hash_ring.specs.Ring.{sorted_ring}
use Rattle.hash_ring.proofs.PlacesKept.{IsRing-anew}
use Rattle.range_moves.specs.Arcs.{arcs_of}
use Rattle.range_moves.proofs.Between.{arcs_whole}
use Rattle.directory_rules.specs.Sight.{is_next}
use Rattle.directory_rules.specs.Host.{has_numbers, outstanding}
use Rattle.directory_rules.specs.State.{Node}
use Rattle.directory_rules.specs.Step.{Stepped, compared_points, sight}
use Rattle.directory_rules.specs.Laws.{HoldOwned, PiecesOfSightsAreOwned}
use Rattle.directory_rules.proofs.Cases.{on_bool}
use Rattle.directory_rules.proofs.Pieces.{pieces_are_owned}

-- a ring's points are on the circle
pub on_circle : (view : ViewValue) (places : PlacesValue) → IsPlaces places → All IsOnCircle (sorted_ring view places)
on_circle view places kept = (IsRing-anew view places kept view.version (sorted_ring view places) refl).on_circle

-- so are the points to which it is compared
pub compared : (next : Bool) (node : Node) (before : ViewValue) (places : PlacesValue) → All IsOnCircle node.ring.points → IsPlaces places
    → All IsOnCircle (compared_points next node before places)
compared next node before places ring kept =
    on_bool (λ b. All IsOnCircle (cond b (sorted_ring before places) node.ring.points)) (next && (node.view.version == 0))
    (λ t. on_circle before places kept) (λ f. ring)

abbrev pub HoldsOwned : Node → Stepped → Type 0
HoldsOwned node stepped = HoldOwned node.settings.hashing stepped.node.ring.points node.host.silo stepped.node.holding.pieces

pub sight_owned : (next : Bool) (node : Node) (before view : ViewValue) (places : PlacesValue) → All IsOnCircle node.ring.points
    → IsPlaces places → HoldsOwned node (sight next node before view places)
sight_owned next node before view places ring kept =
    pieces_are_owned next node.settings.hashing view node.host.silo node.holding.pieces (compared_points next node before places)
    (sorted_ring view places)
    (arcs_of (compared_points next node before places) (sorted_ring view places))
    (arcs_whole (compared_points next node before places) (sorted_ring view places) (compared next node before places ring kept)
    (on_circle view places kept))

unless : (a b : Bool) (m n : ℕ) (node : Node) (made : Stepped) → HoldsOwned node made
    → IfOk (cond a (Err m) (cond b (Err n) (Ok made))) (HoldsOwned node)
unless true b m n node made owned = tt
unless false true m n node made owned = tt
unless false false m n node made owned = owned

pub sights_are_owned : PiecesOfSightsAreOwned
sights_are_owned node before view places stepped ring kept seen =
    subst (λ result. IfOk result (HoldsOwned node)) seen
    (unless (not (nat_lt node.view.version view.version)) (not (has_numbers node.settings node.host (length (outstanding node.host)))) 903
    805 node
    (sight (is_next node.view before view node.host.silo) node before view places)
    (sight_owned (is_next node.view before view node.host.silo) node before view places ring kept))
