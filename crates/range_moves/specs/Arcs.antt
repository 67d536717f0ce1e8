-- The arcs between two rings, the old one before and the new one after: the circle cut at every place of either.
use Rattle.std.specs.Prelude.{◌≡◌, ℕ, ◌<◌, min, List, [], ◌∷◌, ◌++◌, map, fold, count_by, IsTrue, All, AllPairs, Contains, Option}
use Rattle.std.specs.Option.{option_map}
use Rattle.silo_address.specs.Silo.{Silo}
use Rattle.ring_range.specs.Range.{circle, Range, IsRange, EachHash, holds}
use Rattle.ring_range.specs.Cut.{cut_parts, IsInside}
use Rattle.hash_ring.specs.declared.Point.{Point}
use Rattle.hash_ring.specs.Owner.{owner_of}
use Rattle.range_moves.specs.declared.arc.RingArc.{RingArc}

-- the silo that owns a hash; none where there is no point
abbrev pub owner_silo : List Point → ℕ → Option Silo
owner_silo points hash = option_map (λ p. p.silo) (owner_of points hash)

-- the places at which either ring has a point
abbrev pub all_places : List Point → List Point → List ℕ
all_places old new = map (λ p. p.place) (old ++ new)

-- the circle in parts, going forward from the lowest place and cut at each; where there is no place there is no part
abbrev pub circle_cut_at : List ℕ → List Range
circle_cut_at [] = []
circle_cut_at (place ∷ places) = cut_parts (record { start = fold min place places; size = circle }) (place ∷ places)

-- a range with those who own its first hash
abbrev pub arc_of : List Point → List Point → Range → RingArc
arc_of old new range = record { range = range; from = owner_silo old range.start; to = owner_silo new range.start }

-- the arcs, by start
abbrev pub arcs_of : List Point → List Point → List RingArc
arcs_of old new = map (arc_of old new) (circle_cut_at (all_places old new))

-- how many arcs a hash is in: one where there is a place, and otherwise none
abbrev pub arcs_per_hash : List ℕ → ℕ
arcs_per_hash [] = 0
arcs_per_hash (place ∷ places) = 1

-- the arc tells who owns the hash before and after
pub record HasOwners (old new : List Point) (arc : RingArc) (hash : ℕ) : Type 0 where
  pub before : owner_silo old hash ≡ arc.from
  pub after : owner_silo new hash ≡ arc.to

-- what the arcs between two rings are
pub record AreArcs (old new : List Point) (arcs : List RingArc) : Type 0 where
  -- each hash of the circle is in just one arc, where either ring has a place
  pub once : EachHash (λ hash. count_by (λ arc. holds arc.range hash) arcs ≡ arcs_per_hash (all_places old new))
  -- and has the owners that the arc tells
  pub owners : All (λ arc. EachHash (λ hash. IsTrue (holds arc.range hash) → HasOwners old new arc hash)) arcs
  pub ranges : All (λ arc. IsRange arc.range) arcs
  pub present : All (λ arc. 0 < arc.range.size) arcs
  pub in_order : AllPairs (λ arc later. arc.range.start < later.range.start) arcs
  -- the cuts are the places of the two rings, all of them
  pub begins : All (λ arc. Contains (all_places old new) arc.range.start) arcs
  pub uncut : All (λ arc. All (λ place. ¬ (IsInside arc.range place)) (all_places old new)) arcs
