-- What the pieces of a node are: ranges with their tables.
use Rattle.std.specs.Prelude.{◌≡◌, ℕ, ◌<◌, true, List, [], All, AllPairs}
use Rattle.std.specs.List.Sorted.{IsStrictlySortedBy}
use Rattle.std.specs.Map.{keys_of}
use Rattle.silo_address.specs.Grain.{grain_cmp}
use Rattle.silo_address.specs.declared.Entry.{Entry}
use Rattle.ring_range.specs.Range.{Range, IsRange, holds}
use Rattle.hash_ring.specs.declared.Hashing.{Hashing}
use Rattle.hash_ring.specs.Hash.{hash_grain}
use Rattle.directory_rules.specs.declared.piece_state.PieceState.TheVariants.{Settled}
use Rattle.directory_rules.specs.State.{Table, Piece, Gathering, Recovery, Node}

-- the entry's grain is hashed into the range
abbrev pub IsHashedInto : Hashing → Range → Entry → Type 0
IsHashedInto hashing range entry = holds range (hash_grain hashing entry.grain) ≡ true

-- the table of a range: in the order of the grains, each entry under its own, and hashed into the range
pub record IsTableOf (hashing : Hashing) (range : Range) (table : Table) : Type 0 where
  pub by_grain : IsStrictlySortedBy grain_cmp (keys_of table)
  pub own_grain : All (λ e. e.0 ≡ e.1.grain) table
  pub placed : All (λ e. IsHashedInto hashing range e.1) table

-- the piece under a start: its range begins there and has a hash, and it has no entries unless it is settled
pub record IsPiece (hashing : Hashing) (start : ℕ) (piece : Piece) : Type 0 where
  pub under : start ≡ piece.range.start
  pub range_is : IsRange piece.range
  pub present : 0 < piece.range.size
  pub table : IsTableOf hashing piece.range piece.entries
  pub bare : ¬ (piece.state ≡ Settled) → piece.entries ≡ []

-- pieces under their starts, which rise
pub record ArePieces (hashing : Hashing) (pieces : List (ℕ × Piece)) : Type 0 where
  pub each : All (λ e. IsPiece hashing e.0 e.1) pieces
  pub rising : AllPairs (λ e later. e.0 < later.0) pieces

-- what has been gathered of a snapshot, and what has been reported, is hashed into the range
abbrev pub IsGathering : Hashing → Gathering → Type 0
IsGathering hashing gathering = All (IsHashedInto hashing gathering.range) gathering.entries

abbrev pub IsRecovery : Hashing → Recovery → Type 0
IsRecovery hashing recovery = IsTableOf hashing recovery.range recovery.gathered

-- the node's pieces, and what it has of those that it awaits and recovers
pub record HasPieces (hashing : Hashing) (node : Node) : Type 0 where
  pub pieces : ArePieces hashing node.holding.pieces
  pub gatherings : All (λ e. IsGathering hashing e.1) node.gatherings
  pub recoveries : All (λ e. IsRecovery hashing e.1) node.recoveries
