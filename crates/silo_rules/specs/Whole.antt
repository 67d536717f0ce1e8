-- What a silo keeps by itself, whatever it is told and whatever letters come.
use Rattle.std.specs.Prelude.{◌≡◌, true, false, Some}
use Rattle.silo_address.specs.Silo.{Silo}
use Rattle.membership_view.specs.declared.row.Row.{Row}
use Rattle.membership_view.specs.Row.{was_dead}
use Rattle.membership_view.specs.Views.{row_of}
use Rattle.membership_view.specs.Whole.{IsViews}
use Rattle.hash_ring.specs.Places.{is_added}
use Rattle.directory_rules.specs.Settings.{Settings}
use Rattle.directory_facts.specs.Seen.{SeesItsVersion}
use Rattle.directory_rules.specs.Membership.{Membership}
use Rattle.silo_rules.specs.SiloValue.{SiloValue}

-- the views are whole, views and places are by the settings, and each silo with a row has its places, but for one that was Dead in the
-- version with which the views begin
pub record AreWhole (settings : Settings) (m : Membership) : Type 0 where
  pub whole : IsViews m.views
  pub limit : m.views.limit ≡ settings.silos
  pub hashing : m.places.hashing ≡ settings.hashing
  pub points : m.places.points ≡ settings.points
  pub added : (silo : Silo) (row : Row) → row_of m.views silo ≡ Some row → was_dead row ≡ false → is_added m.places silo ≡ true

-- so is what the silo was told; and its node has the view of a version that it was told, and the ring of that view by its places
pub record IsWhole (s : SiloValue) : Type 0 where
  pub membership : AreWhole s.node.settings s.membership
  pub seen : SeesItsVersion s.membership.views s.membership.places s.node
