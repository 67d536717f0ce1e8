-- Worked arcs and moves, of silos 10.0.0.1:1000@1 and 10.0.0.2:1000@1.
use Rattle.std.specs.Prelude.{◌≡◌, ℕ, [], ◌∷◌, Option, Some, None}
use Rattle.silo_address.specs.Silo.{Silo}
use Rattle.ring_range.specs.Range.{circle}
use Rattle.hash_ring.specs.declared.Point.{Point}
use Rattle.range_moves.specs.declared.arc.RingArc.{RingArc}
use Rattle.range_moves.specs.declared.arc.Move.{Move}
use Rattle.range_moves.specs.Arcs.{arcs_of}
use Rattle.range_moves.specs.Moves.{moves_of}

abbrev pub silo_a : Silo
silo_a = record { ip = 10 ∷ 0 ∷ 0 ∷ 1 ∷ []; port = 1000; generation = 1 }

abbrev pub silo_b : Silo
silo_b = record { ip = 10 ∷ 0 ∷ 0 ∷ 2 ∷ []; port = 1000; generation = 1 }

abbrev pub point : ℕ → Silo → Point
point place silo = record { place = place; silo = silo; index = 0 }

abbrev pub arc : ℕ → ℕ → Option Silo → Option Silo → RingArc
arc start size from to = record { range = record { start = start; size = size }; from = from; to = to }

abbrev pub move : ℕ → ℕ → Option Silo → Silo → Move
move start size from to = record { range = record { start = start; size = size }; from = from; to = to }

-- a silo joins opposite another one, and takes the half of the circle that goes over 0
abbrev pub ArcsOpposite : Type 0
ArcsOpposite = arcs_of (point 1073741824 silo_a ∷ []) (point 1073741824 silo_a ∷ point 3221225472 silo_b ∷ [])
    ≡ arc 1073741824 2147483648 (Some silo_a) (Some silo_a) ∷ arc 3221225472 2147483648 (Some silo_a) (Some silo_b) ∷ []

abbrev pub MovesOpposite : Type 0
MovesOpposite = moves_of (point 1073741824 silo_a ∷ []) (point 1073741824 silo_a ∷ point 3221225472 silo_b ∷ [])
    ≡ move 3221225472 2147483648 (Some silo_a) silo_b ∷ []

-- a silo joins at the place of a later one, and takes the full circle
abbrev pub MovesTied : Type 0
MovesTied = moves_of (point 5 silo_b ∷ []) (point 5 silo_a ∷ point 5 silo_b ∷ []) ≡ move 5 circle (Some silo_b) silo_a ∷ []

-- the first silo joins, and the last one goes
abbrev pub MovesFirst : Type 0
MovesFirst = moves_of [] (point 5 silo_a ∷ []) ≡ move 5 circle None silo_a ∷ []

abbrev pub ArcsLast : Type 0
ArcsLast = arcs_of (point 5 silo_a ∷ []) [] ≡ arc 5 circle (Some silo_a) None ∷ []

abbrev pub MovesLast : Type 0
MovesLast = moves_of (point 5 silo_a ∷ []) [] ≡ []
