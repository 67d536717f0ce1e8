-- What holds of points, rings and owners, in the words of the subject; and a view and places on which the definitions are worked.
use Rattle.std.specs.Prelude.{◌≡◌, ◌↔◌, ℕ, ◌<◌, IsTrue, List, [], ◌∷◌, All, Contains, Some, None, Ok, true}
use Rattle.silo_address.specs.Silo.{Silo}
use Rattle.ring_range.specs.Range.{circle}
use Rattle.membership_view.specs.declared.Status.TheVariants.{Active, Leaving}
use Rattle.membership_view.specs.View.{ViewValue, IsByAddress}
use Rattle.hash_ring.specs.declared.hashing.Hashing.TheVariants.{Stated}
use Rattle.hash_ring.specs.declared.point.Point.{Point}
use Rattle.hash_ring.specs.Point.{IsOnCircle}
use Rattle.hash_ring.specs.Places.{PlacesValue, IsPlaces, after_add}
use Rattle.hash_ring.specs.Owner.{IsOwner, Owns, owner_of, owns}
use Rattle.hash_ring.specs.Ring.{IsPointOf, IsSortedAnew, IsRing, are_added, points_of, ring_of, sorted_points}

-- a point of a view is one of a silo that is Active there, at its place
abbrev pub IsPoint : Type 0
IsPoint = (view : ViewValue) → IsByAddress view → (places : PlacesValue) (point : Point) → Contains (points_of view places) point ↔ IsPointOf view places point

-- a ring stays when a silo is added that was not added before
abbrev pub RingsStay : Type 0
RingsStay = (places : PlacesValue) (silo : Silo) (given : List ℕ) (next : PlacesValue) → after_add places silo given ≡ Ok next
    → (view : ViewValue) → are_added view places ≡ true → ring_of view next ≡ ring_of view places

-- the sorted list has just these points, in order and each once
abbrev pub SortedAnew : Type 0
SortedAnew = (points : List Point) → IsSortedAnew (sorted_points points) points

-- and no other list has
abbrev pub OneList : Type 0
OneList = (sorted points : List Point) → IsSortedAnew sorted points → sorted ≡ sorted_points points

-- the ring of a view is one
abbrev pub RingsAreRings : Type 0
RingsAreRings = (view : ViewValue) (places : PlacesValue) → IsPlaces places → IsRing (ring_of view places)

-- the owner by going over all points is the nearest
abbrev pub OwnerIsNearest : Type 0
OwnerIsNearest = (points : List Point) (hash : ℕ) (owner : Point) → owner_of points hash ≡ Some owner → IsOwner points hash owner

-- what is an owner is the one
abbrev pub OneOwner : Type 0
OneOwner = (points : List Point) (hash : ℕ) (owner : Point) → hash < circle → All IsOnCircle points → IsOwner points hash owner → owner_of points hash ≡ Some owner

-- nobody owns a hash where there is no point
abbrev pub NobodyOwns : Type 0
NobodyOwns = (points : List Point) (hash : ℕ) → (owner_of points hash ≡ None) ↔ (points ≡ [])

-- a silo owns a hash where the owner is a point of it
abbrev pub OwnsIsOwned : Type 0
OwnsIsOwned = (points : List Point) (silo : Silo) (hash : ℕ) → hash < circle → All IsOnCircle points → IsTrue (owns points silo hash) ↔ Owns points silo hash

-- ---- two silos, of which one shares a place with the other, and a third that leaves
abbrev pub a : Silo
a = record { ip = 10 ∷ 0 ∷ 0 ∷ 1 ∷ []; port = 1000; generation = 1 }

abbrev pub b : Silo
b = record { ip = 10 ∷ 0 ∷ 0 ∷ 2 ∷ []; port = 1000; generation = 1 }

abbrev pub c : Silo
c = record { ip = 10 ∷ 0 ∷ 0 ∷ 3 ∷ []; port = 1000; generation = 1 }

abbrev pub two_view : ViewValue
two_view = record { version = 4; rows = (a, Active) ∷ (b, Active) ∷ (c, Leaving) ∷ [] }

abbrev pub two_places : PlacesValue
two_places = record { hashing = Stated; points = 30; entries = (a, 0 ∷ 2147483648 ∷ []) ∷ (b, 2147483648 ∷ []) ∷ (c, 7 ∷ []) ∷ [] }
