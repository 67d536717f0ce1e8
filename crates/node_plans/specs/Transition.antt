-- What a version changes of the ring.
use Rattle.std.specs.Prelude.{◌≡◌, List}
use Rattle.membership_view.specs.View.{ViewValue}
use Rattle.hash_ring.specs.Places.{PlacesValue}
use Rattle.hash_ring.specs.Ring.{RingValue, ring_of}
use Rattle.range_moves.specs.Arcs.{arcs_of}
use Rattle.range_moves.specs.declared.RingArc.{RingArc}
use Rattle.directory_rules.specs.State.{Node}
use Rattle.directory_rules.specs.Sight.{is_next}
use Rattle.directory_rules.specs.Step.{compared_points}

-- a ring, and the arcs from another one to it
pub record TransitionValue : Type 0 where
  pub ring : RingValue
  pub arcs : List RingArc

-- the transition is that of the node's sight of the view: to the view's ring, from the one to which a sight compares it
pub record IsOfSight (node : Node) (before view : ViewValue) (places : PlacesValue) (transition : TransitionValue) : Type 0 where
  pub ring : transition.ring ≡ ring_of view places
  pub arcs : transition.arcs ≡ arcs_of (compared_points (is_next node.view before view node.host.silo) node before places) transition.ring.points
