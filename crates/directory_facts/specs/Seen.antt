-- What a silo has seen: a version's view, and its ring by the places of all silos.
use Rattle.std.specs.Prelude.{◌≡◌, ◌≤◌, true, IsSome}
use Rattle.silo_address.specs.Silo.{Silo}
use Rattle.membership_view.specs.Views.{ViewsValue, view_at, row_of}
use Rattle.hash_ring.specs.Places.{PlacesValue, is_added}
use Rattle.hash_ring.specs.Ring.{ring_of}
use Rattle.directory_rules.specs.Settings.{Settings}
use Rattle.directory_rules.specs.State.{Node}

-- the node has seen a version that there is; its view is that of the version, and its ring is the ring of that view
pub record SeesItsVersion (views : ViewsValue) (places : PlacesValue) (node : Node) : Type 0 where
  pub within : node.view.version ≤ views.version
  pub view_is : node.view ≡ view_at views node.view.version
  pub ring_is : node.ring ≡ ring_of node.view places

-- the views and places are by the settings, and each silo with a row has places
pub record ArePlaced (settings : Settings) (views : ViewsValue) (places : PlacesValue) : Type 0 where
  pub limit : views.limit ≡ settings.silos
  pub hashing : places.hashing ≡ settings.hashing
  pub points : places.points ≡ settings.points
  pub added : (silo : Silo) → IsSome (row_of views silo) → is_added places silo ≡ true
