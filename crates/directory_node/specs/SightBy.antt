-- What a node's sight of a view is by a transition, whatever that is between.
use Rattle.membership_view.specs.View.{ViewValue}
use Rattle.hash_ring.specs.Places.{PlacesValue}
use Rattle.directory_rules.specs.State.{Node}
use Rattle.directory_rules.specs.Sight.{is_next}
use Rattle.directory_rules.specs.Step.{Stepped, having_seen, node_after}
use Rattle.node_plans.specs.Transition.{TransitionValue}

-- the rule's sight, but by the transition's arcs and with its ring: so it is the same whatever the places are
abbrev pub sight_by : Node → (before view : ViewValue) → PlacesValue → TransitionValue → Stepped
sight_by node before view places transition =
    let next = is_next node.view before view node.host.silo in
    having_seen next (record (node_after next node view places transition.arcs) { ring = transition.ring })
