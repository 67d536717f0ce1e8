-- A walk round the circle, from one place of two rings to the next: for each ring the points still ahead, by place.
use Rattle.std.specs.Prelude.{ℕ, ◌==◌, min, if◌then◌else◌, List, [], ◌∷◌, Option, Some, None}
use Rattle.silo_address.specs.Silo.{Silo}
use Rattle.hash_ring.specs.declared.Point.{Point}

-- the highest hash, after which comes 0
abbrev pub highest : ℕ
highest = 4294967295

-- the points that are left once those at the place are passed
abbrev pub passed : ℕ → List Point → List Point
passed place [] = []
passed place (point ∷ ahead) = if point.place == place then passed place ahead else point ∷ ahead

-- who owns the place: the first of the points there, and where there is none whoever owned the hashes before it
abbrev pub owner_at : ℕ → List Point → Option Silo → Option Silo
owner_at place [] before = before
owner_at place (point ∷ ahead) before = if point.place == place then Some point.silo else before

-- the next place of one ring
abbrev pub place_ahead : List Point → Option ℕ
place_ahead [] = None
place_ahead (point ∷ ahead) = Some point.place

-- the nearer of the two rings' next places
abbrev pub nearer_place : Option ℕ → Option ℕ → Option ℕ
nearer_place None other = other
nearer_place (Some one) None = Some one
nearer_place (Some one) (Some other) = Some (min one other)
