-- The setting of the protocol that the views and places of a world make.
use Rattle.std.specs.Prelude.{◌≡◌, ℕ, ◌≤◌, nat_le, not, Bool, if◌then◌else◌, Option}
use Rattle.silo_address.specs.Silo.{Silo}
use Rattle.membership_view.specs.View.{ViewValue, status_of}
use Rattle.membership_view.specs.Views.{ViewsValue, view_at}
use Rattle.hash_ring.specs.Hash.{hash_grain}
use Rattle.hash_ring.specs.Places.{PlacesValue}
use Rattle.hash_ring.specs.Ring.{sorted_ring}
use Rattle.range_moves.specs.Arcs.{owner_silo}
use Rattle.directory_protocol.specs.Setting.{Setting}
use Rattle.directory_rules.specs.Members.{is_dead_in}
use Rattle.directory_rules.specs.Laws.{is_live}
use Rattle.directory_rules.specs.State.{World}

-- the silo is in the view and isn't Dead there
abbrev pub is_member_in : ViewValue → Silo → Bool
is_member_in view silo = is_live (status_of view silo)

-- the silo isn't Dead in the view, whether it is there or not
abbrev pub is_alive_in : ViewValue → Silo → Bool
is_alive_in view silo = not (is_dead_in view silo)

-- the silo that owns the hash in the view
abbrev pub owner_in : ViewValue → PlacesValue → (hash : ℕ) → Option Silo
owner_in view places hash = owner_silo (sorted_ring view places) hash

-- the view of a version; above the last version the last view again
abbrev pub view_up_to : ViewsValue → (version : ℕ) → ViewValue
view_up_to views version = view_at views (if nat_le version views.version then version else views.version)

-- the setting is that of the world, as far as the world's versions go
pub record IsSettingOf (m : Setting) (world : World) : Type 0 where
  pub hash : m.hash ≡ hash_grain world.settings.hashing
  pub member : (version : ℕ) (silo : Silo) → version ≤ world.views.version → m.member version silo ≡ is_member_in (view_at world.views version) silo
  pub alive : (version : ℕ) (silo : Silo) → version ≤ world.views.version → m.alive version silo ≡ is_alive_in (view_at world.views version) silo
  pub owner : (version hash : ℕ) → version ≤ world.views.version → m.owner version hash ≡ owner_in (view_at world.views version) world.places hash
