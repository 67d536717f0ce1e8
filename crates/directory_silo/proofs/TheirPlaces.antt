-- What the node of a silo asks of a sight, it has.
use Rattle.std.proofs.Common.{◌≡◌, ℕ, ◌-◌, ap, ◌∙◌}
use Rattle.std.specs.Prelude.{true}
use Rattle.membership_view.specs.View.{ViewValue}
use Rattle.membership_view.specs.Views.{view_at}
use Rattle.hash_ring.specs.Ring.{are_added}
use Rattle.silo_rules.specs.SiloValue.{SiloValue}
use Rattle.silo_rules.specs.Whole.{IsWhole}
use Rattle.silo_rules.proofs.Placed.{placed_view}
use Rattle.directory_node.specs.Placed.{ArePlaced}

-- a sight has the places that it asks for, and the node's ring is its view's by them
pub sight_placed : (s : SiloValue) (version : ℕ) (before view : ViewValue) → IsWhole s → before ≡ view_at s.membership.views (version - 1)
    → view ≡ view_at s.membership.views version → ArePlaced s.node before view s.membership.places
sight_placed s version before view is before_is view_is = record {
  earlier = at (version - 1) before before_is;
  now = at version view view_is;
  ring = is.seen.ring_is;
}
  where
    at : (v : ℕ) (seen : ViewValue) → seen ≡ view_at s.membership.views v → are_added seen s.membership.places ≡ true
    at v seen seen_is =
        ap (λ w. are_added w s.membership.places) seen_is
        ∙ placed_view s.membership.views s.membership.places is.membership.whole is.membership.added v
