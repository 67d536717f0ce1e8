-- The ranges that a silo owns. Of points at one place the first owns from there up to the next place; the others own nothing.
use Rattle.std.specs.Prelude.{◌≡◌, ℕ, ◌==◌, ◌&&◌, min, if◌then◌else◌, Bool, false, List, map, filter, fold, count_by, Option, Some, None}
use Rattle.silo_address.specs.Silo.{Silo, silo_eq}
use Rattle.ring_range.specs.Range.{circle, Range, EachHash, distance, holds}
use Rattle.hash_ring.specs.declared.point.Point.{Point}
use Rattle.hash_ring.specs.Point.{point_eq}
use Rattle.hash_ring.specs.Owner.{owner_of, owns}

-- how many steps forward from a place another one comes: all round the circle to the place itself
abbrev pub steps_to : ℕ → ℕ → ℕ
steps_to place other = if other == place then circle else distance place other

-- how many hashes there are from a place on to the next place that has a point
abbrev pub room : List Point → ℕ → ℕ
room points place = fold (λ least p. min least (steps_to place p.place)) circle points

-- the hashes from a point's place on to the next place
abbrev pub range_of : List Point → Point → Range
range_of points point = record { start = point.place; size = room points point.place }

abbrev pub is_point : Point → Option Point → Bool
is_point point None = false
is_point point (Some other) = point_eq point other

-- whether the point owns its own place, and so is the first of those there
abbrev pub owns_its_place : List Point → Point → Bool
owns_its_place points point = is_point point (owner_of points point.place)

-- the ranges of a silo, in the order of the points: one for each of its points that owns its place
abbrev pub ranges_of : List Point → Silo → List Range
ranges_of points silo = map (range_of points) (filter (λ p. silo_eq p.silo silo && owns_its_place points p) points)

-- the range of a point, with its silo
abbrev pub owned_range : List Point → Point → Range × Silo
owned_range points point = (range_of points point, point.silo)

-- every range of the ring with the silo that owns it, in the order of the points
abbrev pub owned_ranges : List Point → List (Range × Silo)
owned_ranges points = map (owned_range points) (filter (owns_its_place points) points)

-- each hash that the silo owns is in just one of the ranges, and any other in none
abbrev pub CoverOwned : List Point → Silo → List Range → Type 0
CoverOwned points silo ranges = EachHash (λ hash. count_by (λ range. holds range hash) ranges ≡ (if owns points silo hash then 1 else 0))
