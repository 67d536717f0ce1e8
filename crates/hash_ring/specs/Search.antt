-- What the search for an owner finds, in a list of points in order.
use Rattle.std.specs.Prelude.{◌≡◌, ℕ, ◌+◌, ◌*◌, ◌<◌, ◌≤◌, ◌⊎◌, List, length, Contains, slice_index_or}
use Rattle.std.specs.List.Sorted.{IsNonDecreasingBy, IsStrictlySortedBy}
use Rattle.hash_ring.specs.declared.point.Point.{Point}
use Rattle.hash_ring.specs.Point.{back, point_cmp}
use Rattle.hash_ring.specs.Places.{PlacesValue}
use Rattle.hash_ring.specs.Ring.{silo_points}

-- the points stand by place
abbrev pub PlacesRise : List Point → Type 0
PlacesRise points = IsNonDecreasingBy (λ p. p.place) points

-- of all points none is nearer back from the hash than the one that stands there
pub record IsLastMet (points : List Point) (hash last : ℕ) : Type 0 where
  pub within : last < length points
  pub nearest : (k : ℕ) (d : Point) → k < length points → back hash (slice_index_or points last d).place ≤ back hash (slice_index_or points k d).place

-- a point at one place with that one, before which none is there
pub record IsFirstThere (points : List Point) (last first : ℕ) : Type 0 where
  pub there : (d : Point) → (slice_index_or points first d).place ≡ (slice_index_or points last d).place
  pub none_before : (k : ℕ) (d : Point) → k < length points → (slice_index_or points k d).place ≡ (slice_index_or points last d).place → first ≤ k

-- points in order, of which each silo has all of its own or none
pub record HasWholeSilos (places : PlacesValue) (points : List Point) : Type 0 where
  pub in_order : IsStrictlySortedBy point_cmp points
  pub their : (p : Point) → Contains points p → Contains (silo_points places p.silo) p
  pub whole : (p q : Point) → Contains points p → Contains (silo_points places p.silo) q → Contains points q

-- a step from a start over two thirds, or over less and then all points from the end of the next third on stand after the place
pub record IsStepByThirds (points : List Point) (start third place step : ℕ) : Type 0 where
  pub bound : step ≤ 2 * third
  pub below : (k : ℕ) (d : Point) → start ≤ k → k < start + step → (slice_index_or points k d).place ≤ place
  pub above : (step ≡ 2 * third) ⊎ ((k : ℕ) (d : Point) → start + step + third ≤ k + 1 → k < length points → place < (slice_index_or points k d).place)
