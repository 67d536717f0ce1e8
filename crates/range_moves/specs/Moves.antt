-- The moves between two rings: the arcs that go to another silo, or to a silo where there was none.
use Rattle.std.specs.Prelude.{◌≡◌, ◌≢◌, ◌↔◌, ℕ, if◌then◌else◌, Bool, false, List, count_by, IsTrue, All, Any, Option, Some, None}
use Rattle.std.specs.List.{filter_map}
use Rattle.silo_address.specs.Silo.{Silo, silo_eq}
use Rattle.ring_range.specs.Range.{Range, IsRange, EachHash, holds}
use Rattle.hash_ring.specs.declared.Point.{Point}
use Rattle.range_moves.specs.declared.arc.RingArc.{RingArc}
use Rattle.range_moves.specs.declared.arc.Move.{Move}
use Rattle.range_moves.specs.Arcs.{owner_silo, arcs_of}

-- whether a silo is there and is this one
abbrev pub is_silo : Option Silo → Silo → Bool
is_silo None silo = false
is_silo (Some other) silo = silo_eq other silo

-- a range that has an owner before and one after moves where they are of different silos; where there is none after it doesn't
abbrev pub move_between : Range → Option Silo → Option Silo → Option Move
move_between range from None = None
move_between range from (Some to) = if is_silo from to then None else Some (record { range = range; from = from; to = to })

-- the move of an arc, if it moves
abbrev pub move_of : RingArc → Option Move
move_of arc = move_between arc.range arc.from arc.to

-- the moves, by start
abbrev pub moves_of : List Point → List Point → List Move
moves_of old new = filter_map move_of (arcs_of old new)

-- the hash goes from the one owner to the other, which is another silo
pub record Moved (old new : List Point) (hash : ℕ) (from : Option Silo) (to : Silo) : Type 0 where
  pub before : owner_silo old hash ≡ from
  pub after : owner_silo new hash ≡ Some to
  pub differ : from ≢ Some to

-- the move takes the hash from the one to the other
pub record Takes (hash : ℕ) (from : Option Silo) (to : Silo) (move : Move) : Type 0 where
  pub held : IsTrue (holds move.range hash)
  pub source : move.from ≡ from
  pub target : move.to ≡ to

-- the hash is in just one of the moves, which takes it from the one to the other
pub record IsTakenOnce (moves : List Move) (hash : ℕ) (from : Option Silo) (to : Silo) : Type 0 where
  pub once : count_by (λ move. holds move.range hash) moves ≡ 1
  pub taken : Any (Takes hash from to) moves

-- what the moves between two rings are
pub record AreMoves (old new : List Point) (moves : List Move) : Type 0 where
  -- each hash that moved is in just one move, with its owners before and after
  pub moved : EachHash (λ hash. (from : Option Silo) (to : Silo) → Moved old new hash from to ↔ IsTakenOnce moves hash from to)
  -- and no move has another hash
  pub no_other : All (λ move. EachHash (λ hash. IsTrue (holds move.range hash) → Moved old new hash move.from move.to)) moves
  pub ranges : All (λ move. IsRange move.range) moves
