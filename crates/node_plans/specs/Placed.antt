-- What a sight asks of the places, and of the node's ring.
use Rattle.std.specs.Prelude.{◌≡◌, true}
use Rattle.membership_view.specs.View.{ViewValue}
use Rattle.hash_ring.specs.Places.{PlacesValue}
use Rattle.hash_ring.specs.Ring.{are_added, ring_of}
use Rattle.directory_rules.specs.State.{Node}
use Rattle.directory_rules.specs.Input.{Input, Sees, Does, Receives}

-- the places of all who are Active in the view, or in the one before it, are known, and the node's ring is its view's by them
pub record ArePlaced (node : Node) (before view : ViewValue) (places : PlacesValue) : Type 0 where
  pub earlier : are_added before places ≡ true
  pub now : are_added view places ≡ true
  pub ring : node.ring ≡ ring_of node.view places

-- so are those of a sight
abbrev pub IsPlaced : Node → Input → Type 0
IsPlaced node (Sees before view places) = ArePlaced node before view places
IsPlaced node (Does step) = Unit {0}
IsPlaced node (Receives letter) = Unit {0}
