-- What a sight asks of its arcs.
use Rattle.std.specs.Prelude.{◌<◌, ◌≤◌, List, All, AllPairs, count_by}
use Rattle.ring_range.specs.Range.{IsRange, EachHash, holds}
use Rattle.hash_ring.specs.declared.Point.{Point}
use Rattle.range_moves.specs.declared.RingArc.{RingArc}
use Rattle.range_moves.specs.Arcs.{AreArcs}

-- the arcs are those between two rings
pub record AreOfRings (arcs : List RingArc) : Type 0 where
  pub old : List Point
  pub new : List Point
  pub are : AreArcs old new arcs

-- no hash is in two of the arcs, and they stand by start: so do all arcs between two rings, and any of them
pub record AreApart (arcs : List RingArc) : Type 0 where
  pub once : EachHash (λ hash. count_by (λ arc. holds arc.range hash) arcs ≤ 1)
  pub ranges : All (λ arc. IsRange arc.range) arcs
  pub present : All (λ arc. 0 < arc.range.size) arcs
  pub in_order : AllPairs (λ arc later. arc.range.start < later.range.start) arcs
