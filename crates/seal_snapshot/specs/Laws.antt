-- The law of what a sight puts on a shelf.
use Rattle.std.specs.Prelude.{ℕ, ◌<◌, List, ◌++◌, All, AllPairs}
use Rattle.silo_address.specs.Silo.{Silo}
use Rattle.membership_view.specs.View.{ViewValue}
use Rattle.hash_ring.specs.declared.Hashing.{Hashing}
use Rattle.range_moves.specs.declared.RingArc.{RingArc}
use Rattle.directory_rules.specs.State.{Piece, Snapshot}
use Rattle.directory_rules.specs.Sight.{sealed}
use Rattle.seal_snapshot.specs.Shelf.{AreInOrder}

-- what is sealed of arcs that come one after the other, at a version above all that is kept, comes behind the shelf
abbrev pub SealedComesBehind : Type 0
SealedComesBehind = (hashing : Hashing) (view : ViewValue) (silo : Silo) (pieces : List (ℕ × Piece)) (arcs : List RingArc) (shelf : List Snapshot)
    → AllPairs (λ arc later. arc.range.start < later.range.start) arcs → All (λ s. s.version < view.version) shelf → AreInOrder shelf
    → AreInOrder (shelf ++ sealed hashing view silo pieces arcs)
