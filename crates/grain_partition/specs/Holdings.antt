-- What a silo keeps for others at every moment.
use Rattle.std.specs.Prelude.{◌≡◌, ℕ, ◌<◌, ◌≤◌, Bool, if◌then◌else◌, List, All, Option, Some, None, count_by, filter, map, IsSomeAnd}
use Rattle.std.specs.List.{list_all}
use Rattle.std.specs.Ordering.{nat_cmp}
use Rattle.std.specs.List.Sorted.{IsStrictlySortedBy}
use Rattle.std.specs.Map.{keys_of, lookup}
use Rattle.std.specs.BTreeMap.{is_at}
use Rattle.ring_range.specs.Range.{Range, IsRange, EachHash, holds}
use Rattle.hash_ring.specs.declared.Hashing.{Hashing}
use Rattle.hash_ring.specs.Hash.{hash_grain}
use Rattle.directory_rules.specs.State.{Piece, Holding}
use Rattle.directory_rules.specs.Sight.{entries_within, was_settled}
use Rattle.directory_rules.specs.Table.{entries_of, lie_in}

-- pieces by start, in which every hash is once at most
pub record ArePieces (pieces : List (ℕ × Piece)) : Type 0 where
  pub in_order : IsStrictlySortedBy nat_cmp (keys_of pieces)
  -- each piece stands under its range's start
  pub under_start : All (λ e. e.1.range.start ≡ e.0) pieces
  -- every range has a hash, and none twice
  pub ranges : All (λ e. IsRange e.1.range) pieces
  pub present : All (λ e. 0 < e.1.range.size) pieces
  -- no hash is in two pieces
  pub once : EachHash (λ hash. count_by (λ e. holds e.1.range hash) pieces ≤ 1)

-- what every holding keeps
abbrev pub IsHolding : Holding → Type 0
IsHolding holding = ArePieces holding.pieces

-- there is a piece of just that range
abbrev pub HasPiece : Range → List (ℕ × Piece) → Type 0
HasPiece range pieces = IsSomeAnd (lookup (is_at (nat_cmp range.start)) pieces) (λ piece. piece.range ≡ range)

-- whether each piece's entries are hashed into its range
abbrev pub are_tidy : Hashing → List (ℕ × Piece) → Bool
are_tidy hashing pieces = list_all (λ e. lie_in hashing e.1.range (entries_of e.1.entries)) pieces

-- the pieces, each with just those of its entries that are hashed into its range
abbrev pub tidied : Hashing → List (ℕ × Piece) → List (ℕ × Piece)
tidied hashing pieces = map (λ e. (e.0, record e.1 { entries = filter (λ t. holds e.1.range (hash_grain hashing t.1.grain)) e.1.entries })) pieces

-- how many entries a range has in the pieces of their hashes, where it is settled
abbrev pub settled_entries : Hashing → List (ℕ × Piece) → Range → Option ℕ
settled_entries hashing pieces range = if was_settled pieces range then Some (entries_within hashing (tidied hashing pieces) range) else None
