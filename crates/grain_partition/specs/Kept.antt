-- Steps of private functions at a sight: which pieces stay, and how they get what they had.
use Rattle.std.specs.Prelude.{ℕ, ◌&&◌, nat_le, Bool, false, if◌then◌else◌, List, [], ◌∷◌, Option, Some, None, map, filter}
use Rattle.std.specs.Ordering.{nat_cmp}
use Rattle.std.specs.Map.{lookup, set_value}
use Rattle.std.specs.BTreeMap.{is_at}
use Rattle.silo_address.specs.Silo.{Silo}
use Rattle.membership_view.specs.View.{ViewValue}
use Rattle.ring_range.specs.Range.{Range}
use Rattle.hash_ring.specs.declared.Hashing.{Hashing}
use Rattle.range_moves.specs.declared.RingArc.{RingArc}
use Rattle.directory_rules.specs.declared.PieceState.TheVariants.{Settled}
use Rattle.directory_rules.specs.State.{Piece}
use Rattle.directory_rules.specs.Sight.{is_owner, is_settled, kept_entries, piece_of}

-- whether the piece is settled, and has every hash of a range that begins where it does
abbrev pub covers : Range → Piece → Bool
covers range piece = is_settled piece.state && nat_le range.size piece.range.size

-- whether a piece stays as one of this range, all of it or a part
abbrev pub stays_as : Range → Option Piece → Bool
stays_as range None = false
stays_as range (Some piece) = covers range piece

abbrev pub stays : List (ℕ × Piece) → Range → Bool
stays pieces range = stays_as range (lookup (is_at (nat_cmp range.start)) pieces)

-- the piece of an arc, still without its entries where a piece stays as it
abbrev pub piece_made : (tidy next : Bool) → Hashing → ViewValue → Silo → List (ℕ × Piece) → RingArc → Piece
piece_made tidy next hashing view silo pieces arc =
    if tidy && stays pieces arc.range
    then record { range = arc.range; state = Settled; entries = [] }
    else piece_of next hashing view silo pieces arc

-- the pieces of the arcs that the silo owns, under their starts
abbrev pub pieces_made : (tidy next : Bool) → Hashing → ViewValue → Silo → List (ℕ × Piece) → List RingArc → List (ℕ × Piece)
pieces_made tidy next hashing view silo pieces arcs =
    map (λ arc. (arc.range.start, piece_made tidy next hashing view silo pieces arc)) (filter (λ arc. is_owner silo arc.to) arcs)

-- what is left of a piece that stays as one of this range
abbrev pub left_of : Hashing → ViewValue → Range → Piece → Piece
left_of hashing view range piece = record { range = range; state = Settled; entries = kept_entries hashing view ((0, piece) ∷ []) range }

-- what is left of the piece, or the one made, if it doesn't stay as that
abbrev pub staying : Hashing → ViewValue → ℕ × Piece → Piece → Piece
staying hashing view e made = if covers made.range e.1 then left_of hashing view made.range e.1 else made

abbrev pub put_back : Hashing → ViewValue → ℕ × Piece → Option Piece → List (ℕ × Piece) → List (ℕ × Piece)
put_back hashing view e None pieces = pieces
put_back hashing view e (Some made) pieces = set_value (is_at (nat_cmp e.0)) pieces (staying hashing view e made)

-- the pieces made, with one of the pieces before where it stays
abbrev pub with_staying : Hashing → ViewValue → List (ℕ × Piece) → ℕ × Piece → List (ℕ × Piece)
with_staying hashing view pieces e = put_back hashing view e (lookup (is_at (nat_cmp e.0)) pieces) pieces
