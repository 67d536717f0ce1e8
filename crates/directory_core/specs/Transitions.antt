-- What the silos of a world share: the transition to the version that one of them saw last.
use Rattle.std.specs.Prelude.{◌≡◌, ◌≢◌, ℕ, ◌+◌, ◌-◌, Option, IfSome}
use Rattle.membership_view.specs.View.{ViewValue}
use Rattle.directory_rules.specs.State.{Node}
use Rattle.membership_view.specs.Views.{ViewsValue, view_at}
use Rattle.hash_ring.specs.Places.{PlacesValue}
use Rattle.hash_ring.specs.Ring.{RingValue, ring_of}
use Rattle.range_moves.specs.Arcs.{arcs_of}
use Rattle.directory_node.specs.Transition.{TransitionValue}
use Rattle.directory_core.specs.Whole.{IsWorld}
use Rattle.directory_core.specs.WorldModel.{world_of}
use Rattle.directory_core.specs.declared.world.World.TheInside.{Inside}

-- the ring of a version
abbrev pub ring_at : ViewsValue → PlacesValue → (version : ℕ) → RingValue
ring_at views places version = ring_of (view_at views version) places

-- the transition goes to the version of its ring, from the version before
pub record IsToVersion (views : ViewsValue) (places : PlacesValue) (transition : TransitionValue) : Type 0 where
  pub ring : transition.ring ≡ ring_at views places transition.ring.version
  pub arcs : transition.arcs ≡ arcs_of (ring_at views places (transition.ring.version - 1)).points transition.ring.points

-- the node has seen the version before the view, and isn't new
pub record ComesNext (node : Node) (view : ViewValue) : Type 0 where
  pub seen : node.view.version ≢ 0
  pub follows : view.version ≡ node.view.version + 1

-- the transition that is kept, if there is one, is such
abbrev pub IsShared : ViewsValue → PlacesValue → Option TransitionValue → Type 0
IsShared views places shared = IfSome shared (IsToVersion views places)

-- what the fields keep
pub record IsWhole (w : Inside) : Type 0 where
  pub world : IsWorld (world_of w)
  pub shared : IsShared w.membership.views w.membership.places w.shared
