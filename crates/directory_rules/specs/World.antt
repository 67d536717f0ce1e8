-- The flat world: all that there is.
use Rattle.std.specs.Prelude.{List, []}
use Rattle.membership_view.specs.View.{ViewValue}
use Rattle.membership_view.specs.Views.{view_at}
use Rattle.hash_ring.specs.declared.point.Point.{Point}
use Rattle.hash_ring.specs.Ring.{sorted_ring}
use Rattle.directory_rules.specs.Settings.{Settings}
use Rattle.directory_rules.specs.Membership.{Membership, first_membership}
use Rattle.directory_rules.specs.State.{Accepted, World}
use Rattle.directory_rules.specs.declared.outcome.Outcome.{Outcome}

-- the view of the current version, and its ring
abbrev pub current_view : World → ViewValue
current_view world = view_at world.views world.views.version

abbrev pub current_ring : World → List Point
current_ring world = sorted_ring (current_view world) world.places

-- what its changes made
abbrev pub membership_of : World → Membership
membership_of world = record { views = world.views; places = world.places }

-- with what they make from now on
abbrev pub with_membership : World → Membership → World
with_membership world m = record world { views = m.views; places = m.places }

-- before the first event
abbrev pub first_world : Settings → World
first_world settings = record {
  settings = settings;
  accepted = 0;
  views = (first_membership settings).views;
  places = (first_membership settings).places;
  nodes = [];
  mail = [];
  sent = 0;
}

-- an event that tells this outcome and leaves that world
abbrev pub accepted_as : World → Outcome → Accepted
accepted_as after outcome = record { outcome = outcome; world = after }
