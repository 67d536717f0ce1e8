-- The owner of a hash: going back from the hash, the first point that is met.
use Rattle.std.specs.Prelude.{◌≡◌, ℕ, ◌≤◌, if◌then◌else◌, Bool, false, List, [], ◌∷◌, All, Contains, Option, Some, None}
use Rattle.std.specs.Ordering.{nat_cmp, on, then_cmp, is_lt, is_gt}
use Rattle.std.specs.declared.cmp.Ordering.{Ordering}
use Rattle.silo_address.specs.Silo.{Silo, silo_cmp, silo_eq}
use Rattle.hash_ring.specs.declared.point.Point.{Point}
use Rattle.hash_ring.specs.Point.{back}

-- points by how far back from the hash they lie, then by silo, then by index
abbrev pub nearness_cmp : ℕ → Point → Point → Ordering
nearness_cmp hash = then_cmp (on (λ p. back hash p.place) nat_cmp) (then_cmp (on (λ p. p.silo) silo_cmp) (on (λ p. p.index) nat_cmp))

-- the nearer of a point and another one, if there is one
abbrev pub nearer_of : ℕ → Point → Option Point → Point
nearer_of hash point None = point
nearer_of hash point (Some other) = if is_lt (nearness_cmp hash other point) then other else point

-- the owner of a hash: of all points the nearest; none where there is no point
abbrev pub owner_of : List Point → ℕ → Option Point
owner_of [] hash = None
owner_of (point ∷ points) hash = Some (nearer_of hash point (owner_of points hash))

-- no point lies nearer back from the hash than the owner; of points at its place it has the first silo, and the least index there
pub record IsOwner (points : List Point) (hash : ℕ) (owner : Point) : Type 0 where
  pub there : Contains points owner
  pub nearest : All (λ p. back hash owner.place ≤ back hash p.place) points
  pub first_silo : All (λ p. p.place ≡ owner.place → is_gt (silo_cmp owner.silo p.silo) ≡ false) points
  pub first_index : All (λ p. p.place ≡ owner.place → p.silo ≡ owner.silo → owner.index ≤ p.index) points

-- whether a point is there and is one of the silo's
abbrev pub is_of_silo : Silo → Option Point → Bool
is_of_silo silo None = false
is_of_silo silo (Some point) = silo_eq point.silo silo

-- whether the silo owns the hash
abbrev pub owns : List Point → Silo → ℕ → Bool
owns points silo hash = is_of_silo silo (owner_of points hash)

-- the owner of the hash is a point of the silo
abbrev pub Owns : List Point → Silo → ℕ → Type 0
Owns points silo hash = (owner : Point) × IsOwner points hash owner × (owner.silo ≡ silo)
