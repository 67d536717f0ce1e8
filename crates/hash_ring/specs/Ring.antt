-- The ring of a view: the points of the silos that are Active there, in order.
use Rattle.std.specs.Prelude.{◌≡◌, ℕ, ◌<◌, not, Bool, false, List, [], map, flat_map, filter, fold, length, slice_index, All, Option, Some, None}
use Rattle.std.specs.List.{list_all, list_any, enumerate_from}
use Rattle.std.specs.List.Sorted.{IsStrictlySortedBy}
use Rattle.std.specs.Option.{option_map_or}
use Rattle.std.specs.BTreeSet.{insert_key}
use Rattle.silo_address.specs.Silo.{Silo, silo_eq}
use Rattle.membership_view.specs.declared.status.Status.TheVariants.{Active}
use Rattle.membership_view.specs.Row.{is_active}
use Rattle.membership_view.specs.View.{ViewValue, status_of, active_silos}
use Rattle.hash_ring.specs.declared.point.Point.{Point}
use Rattle.hash_ring.specs.Point.{point_cmp, IsOnCircle, HaveSamePoints}
use Rattle.hash_ring.specs.Places.{PlacesValue, places_of, is_added}

-- a silo's points, one at each of its places
abbrev pub points_at : Silo → List ℕ → List Point
points_at silo places = map (λ e. record { place = e.1; silo = silo; index = e.0 }) (enumerate_from 0 places)

abbrev pub points_if : Silo → Option (List ℕ) → List Point
points_if silo None = []
points_if silo (Some places) = points_at silo places

abbrev pub silo_points : PlacesValue → Silo → List Point
silo_points places silo = points_if silo (places_of places silo)

-- the points of a view: those of its Active silos
abbrev pub points_of : ViewValue → PlacesValue → List Point
points_of view places = flat_map (silo_points places) (active_silos view)

-- what is a point of a view: its silo is Active there, and has that place at that index
pub record IsPointOf (view : ViewValue) (places : PlacesValue) (point : Point) : Type 0 where
  pub active : status_of view point.silo ≡ Some Active
  pub its_places : List ℕ
  pub has : places_of places point.silo ≡ Some its_places
  pub within : point.index < length its_places
  pub at : slice_index its_places point.index ≡ point.place

-- points in order, each once
abbrev pub sorted_points : List Point → List Point
sorted_points points = fold (insert_key point_cmp) [] points

-- the ring's points, sorted anew
abbrev pub sorted_ring : ViewValue → PlacesValue → List Point
sorted_ring view places = sorted_points (points_of view places)

-- the list has just these points, in order and each once
pub record IsSortedAnew (sorted points : List Point) : Type 0 where
  pub in_order : IsStrictlySortedBy point_cmp sorted
  pub same : HaveSamePoints sorted points

-- the version of a view, and its points in order
pub record RingValue : Type 0 where
  pub version : ℕ
  pub points : List Point

-- the ring of a view
abbrev pub ring_of : ViewValue → PlacesValue → RingValue
ring_of view places = record { version = view.version; points = sorted_ring view places }

-- what every ring keeps
pub record IsRing (ring : RingValue) : Type 0 where
  pub in_order : IsStrictlySortedBy point_cmp ring.points
  pub on_circle : All IsOnCircle ring.points

-- the ring is that of some view, by these places
abbrev pub IsRingBy : RingValue → PlacesValue → Type 0
IsRingBy ring places = (view : ViewValue) × (ring.points ≡ sorted_ring view places)

-- whether every Active silo of the view was added
abbrev pub are_added : ViewValue → PlacesValue → Bool
are_added view places = list_all (is_added places) (active_silos view)

-- whether a silo is Active in a view
abbrev pub is_active_in : ViewValue → Silo → Bool
is_active_in view silo = option_map_or (λ status. is_active status) (status_of view silo) false

-- whether the silo has a point there
abbrev pub is_on_ring : List Point → Silo → Bool
is_on_ring points silo = list_any (λ p. silo_eq p.silo silo) points

-- the Active silos of a view that have no point on the ring
abbrev pub new_silos : RingValue → ViewValue → List Silo
new_silos ring view = filter (λ silo. not (is_on_ring ring.points silo)) (active_silos view)
