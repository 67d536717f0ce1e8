-- Points: a silo stands on the circle of hashes at several places, with a point at each.
use Rattle.std.specs.Prelude.{ℕ, ◌<◌, ◌==◌, ◌&&◌, Bool, List, Contains}
use Rattle.std.specs.Ordering.{nat_cmp, on, then_cmp}
use Rattle.std.specs.declared.cmp.Ordering.{Ordering}
use Rattle.silo_address.specs.Silo.{silo_cmp, silo_eq}
use Rattle.ring_range.specs.Range.{circle, distance}
use Rattle.hash_ring.specs.declared.point.Point.{Point}

-- how far back from a hash a place lies: so many steps forward from the place is the hash
abbrev pub back : ℕ → ℕ → ℕ
back hash place = distance place hash

-- points by place, then silo, then index
abbrev pub point_cmp : Point → Point → Ordering
point_cmp = then_cmp (on (λ p. p.place) nat_cmp) (then_cmp (on (λ p. p.silo) silo_cmp) (on (λ p. p.index) nat_cmp))

abbrev pub point_eq : Point → Point → Bool
point_eq a b = (a.place == b.place) && (silo_eq a.silo b.silo && (a.index == b.index))

-- the point stands on the circle
abbrev pub IsOnCircle : Point → Type 0
IsOnCircle point = point.place < circle

-- the two lists have the same points, be they in another order or some of them twice
pub record HaveSamePoints (one other : List Point) : Type 0 where
  pub forth : (point : Point) → Contains one point → Contains other point
  pub back : (point : Point) → Contains other point → Contains one point
