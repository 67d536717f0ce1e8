-- The pieces after a sight, told before it.
use Rattle.std.specs.Prelude.{ℕ, Bool, List, [], map}
use Rattle.silo_address.specs.Silo.{Silo}
use Rattle.membership_view.specs.View.{ViewValue}
use Rattle.hash_ring.specs.declared.Hashing.{Hashing}
use Rattle.range_moves.specs.declared.RingArc.{RingArc}
use Rattle.directory_rules.specs.State.{Piece}
use Rattle.directory_rules.specs.Sight.{pieces_after}

-- the pieces without their entries
abbrev pub emptied : List (ℕ × Piece) → List (ℕ × Piece)
emptied pieces = map (λ e. (e.0, record e.1 { entries = [] })) pieces

-- the pieces after the sight, without their entries
abbrev pub pieces_seen : (next : Bool) → Hashing → ViewValue → Silo → List (ℕ × Piece) → List RingArc → List (ℕ × Piece)
pieces_seen next hashing view silo pieces arcs = emptied (pieces_after next hashing view silo pieces arcs)
