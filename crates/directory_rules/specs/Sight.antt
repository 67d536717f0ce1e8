-- A sight: a silo sees a newer version. The ring of the version that it had seen is compared to the ring of the new one;
-- what it owns in the new one becomes pieces, and what it gives up is sealed for the new owners.
use Rattle.std.specs.Prelude.{ℕ, ◌+◌, ◌==◌, ◌&&◌, ◌||◌, not, is_none, is_some, Bool, true, false, if◌then◌else◌, List, [], ◌∷◌, ◌++◌, Option, Some, None, map, filter, fold, flat_map, length}
use Rattle.std.specs.List.{list_all, list_any}
use Rattle.std.specs.Map.{keys_of}
use Rattle.silo_address.specs.Silo.{Silo, silo_eq}
use Rattle.silo_address.specs.declared.Entry.{Entry}
use Rattle.membership_view.specs.View.{ViewValue, status_of}
use Rattle.ring_range.specs.Range.{Range, holds, within}
use Rattle.ring_range.specs.Cut.{cut_parts}
use Rattle.hash_ring.specs.declared.Hashing.{Hashing}
use Rattle.hash_ring.specs.Hash.{hash_grain}
use Rattle.range_moves.specs.declared.RingArc.{RingArc}
use Rattle.directory_rules.specs.declared.piece_state.PieceState.{PieceState}
use Rattle.directory_rules.specs.declared.piece_state.PieceState.TheVariants.{Settled, Awaiting, Recovering}
use Rattle.directory_rules.specs.Members.{is_dead_in}
use Rattle.directory_rules.specs.State.{Table, Piece, Snapshot}
use Rattle.directory_rules.specs.Table.{with_entry, entries_of}

-- whether the state is settled
abbrev pub is_settled : PieceState → Bool
is_settled Settled = true
is_settled (Awaiting from) = false
is_settled Recovering = false

-- whether the range lies in one settled piece
abbrev pub is_in_settled : List (ℕ × Piece) → Range → Bool
is_in_settled pieces range = list_any (λ e. is_settled e.1.state && within range e.1.range) pieces

-- whether every hash of the range was in settled pieces: the range, cut where pieces begin, lies in them part by part
abbrev pub was_settled : List (ℕ × Piece) → Range → Bool
was_settled pieces range = list_all (is_in_settled pieces) (cut_parts range (keys_of pieces))

-- all entries of the pieces, in the order of their grains
abbrev pub all_entries : List (ℕ × Piece) → Table
all_entries pieces = fold with_entry [] (flat_map (λ e. entries_of e.1.entries) pieces)

-- the pieces that are settled, and how many of their entries are hashed into the range
abbrev pub settled_pieces : List (ℕ × Piece) → List (ℕ × Piece)
settled_pieces pieces = filter (λ e. is_settled e.1.state) pieces

abbrev pub entries_within : Hashing → List (ℕ × Piece) → Range → ℕ
entries_within hashing pieces range = length (filter (λ e. holds range (hash_grain hashing e.0)) (all_entries (settled_pieces pieces)))

-- whether the entry is hashed into the range, and its silo isn't Dead in the view
abbrev pub is_kept : Hashing → ViewValue → Range → Entry → Bool
is_kept hashing view range entry = holds range (hash_grain hashing entry.grain) && not (is_dead_in view entry.activation.silo)

-- the entries of the pieces that are hashed into the range, without those on silos that are Dead in the view
abbrev pub kept_entries : Hashing → ViewValue → List (ℕ × Piece) → Range → Table
kept_entries hashing view pieces range = filter (λ e. is_kept hashing view range e.1) (all_entries pieces)

-- whether the arc's owner is the silo
abbrev pub is_owner : Silo → Option Silo → Bool
is_owner silo None = false
is_owner silo (Some owner) = silo_eq owner silo

-- what is missing comes from the arc's owner before, where that is another silo that isn't Dead; else from all silos
abbrev pub state_from : ViewValue → Silo → Option Silo → PieceState
state_from view silo None = Recovering
state_from view silo (Some owner) = if silo_eq owner silo || is_dead_in view owner then Recovering else Awaiting owner

-- the state of a piece that wasn't settled before: a skipped version has no snapshots
abbrev pub missing_state : (next : Bool) → ViewValue → Silo → Option Silo → PieceState
missing_state next view silo from = if next then state_from view silo from else Recovering

-- the piece of an arc that the silo owns in the view: it stays settled where it was
abbrev pub piece_of : (next : Bool) → Hashing → ViewValue → Silo → List (ℕ × Piece) → RingArc → Piece
piece_of next hashing view silo pieces arc =
    if was_settled pieces arc.range
    then record { range = arc.range; state = Settled; entries = kept_entries hashing view pieces arc.range }
    else record { range = arc.range; state = missing_state next view silo arc.from; entries = [] }

-- the pieces after the sight: one for each arc that the silo owns in the view, under its start
abbrev pub pieces_after : (next : Bool) → Hashing → ViewValue → Silo → List (ℕ × Piece) → List RingArc → List (ℕ × Piece)
pieces_after next hashing view silo pieces arcs =
    map (λ arc. (arc.range.start, piece_of next hashing view silo pieces arc)) (filter (λ arc. is_owner silo arc.to) arcs)

-- whether the arc is handed over: the silo owned it, another one owns it now, and all of it was settled
abbrev pub is_handed_over : Silo → List (ℕ × Piece) → RingArc → Bool
is_handed_over silo pieces arc = is_owner silo arc.from && is_some arc.to && not (is_owner silo arc.to) && was_settled pieces arc.range

-- the snapshot of the range for its owner in the view, if there is one
abbrev pub snapshot_for : Option Silo → Hashing → ViewValue → Silo → List (ℕ × Piece) → Range → List Snapshot
snapshot_for None hashing view silo pieces range = []
snapshot_for (Some to) hashing view silo pieces range = record {
  version = view.version;
  range = range;
  from = silo;
  to = to;
  entries = entries_of (kept_entries hashing view pieces range);
} ∷ []

-- the snapshots that a sight of the next version seals: one for each arc that is handed over
abbrev pub sealed : Hashing → ViewValue → Silo → List (ℕ × Piece) → List RingArc → List Snapshot
sealed hashing view silo pieces arcs =
    flat_map (λ arc. snapshot_for arc.to hashing view silo pieces arc.range) (filter (is_handed_over silo pieces) arcs)

-- the shelf after the sight: a sight of the next version adds what it seals and drops what is for silos that are Dead in
-- the view, and one that skips versions drops all
abbrev pub shelf_after : (next : Bool) → ViewValue → List Snapshot → (sealed : List Snapshot) → List Snapshot
shelf_after next view shelf sealed = if next then filter (λ s. not (is_dead_in view s.to)) shelf ++ sealed else []

-- whether the sight is of the next version: the one after that seen, or for a first sight the one in which the silo joined
abbrev pub is_next : (seen : ViewValue) → (before view : ViewValue) → Silo → Bool
is_next seen before view silo =
    (view.version == seen.version + 1) || ((seen.version == 0) && is_none (status_of before silo) && is_some (status_of view silo))
