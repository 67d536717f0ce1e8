-- What the private searches find: the piece of a hash, and the settled one.
use Rattle.std.specs.Prelude.{◌≡◌, ℕ, ◌≤◌, true, List, Some, IsSome}
use Rattle.std.specs.Ordering.{nat_cmp}
use Rattle.std.specs.Map.{lookup}
use Rattle.std.specs.BTreeMap.{is_at}
use Rattle.ring_range.specs.Range.{Range, distance, holds}
use Rattle.directory_rules.specs.State.{Piece}
use Rattle.directory_rules.specs.Sight.{is_settled}

-- of the pieces the one whose start is met first, going back from the hash
pub record BeginsNearest (pieces : List (ℕ × Piece)) (hash : ℕ) (piece : Piece) : Type 0 where
  pub there : lookup (is_at (nat_cmp piece.range.start)) pieces ≡ Some piece
  -- going forward from the start of any piece, this one's start comes no later than the hash
  pub nearest : (start : ℕ) → IsSome (lookup (is_at (nat_cmp start)) pieces) → distance start piece.range.start ≤ distance start hash

-- a settled piece of this range has the hash
pub record SettlesAt (pieces : List (ℕ × Piece)) (hash : ℕ) (range : Range) : Type 0 where
  pub piece : Piece
  pub there : lookup (is_at (nat_cmp piece.range.start)) pieces ≡ Some piece
  pub settled : is_settled piece.state ≡ true
  pub range_is : piece.range ≡ range
  pub has : holds range hash ≡ true
