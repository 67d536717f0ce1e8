-- How the fields of a transition mean what is shared.
use Rattle.std.specs.Arc.{arc_value}
use Rattle.grain_partition.specs.Sight.{AreOfRings}
use Rattle.node_plans.specs.Transition.{TransitionValue}
use Rattle.node_plans.specs.declared.transition.Transition.TheInside.{Inside}

abbrev pub transition_of : Inside → TransitionValue
transition_of t = record { ring = arc_value t.ring; arcs = arc_value t.arcs }

-- what the fields keep
abbrev pub IsWhole : Inside → Type 0
IsWhole t = AreOfRings (transition_of t).arcs
