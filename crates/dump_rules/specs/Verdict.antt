-- The verdict over a dump's lists: whether rings, pieces and entries are as they must be, or the first fault. Nodes of
-- silos that are Dead in the current version may stand there, and are passed over.
use Rattle.std.specs.Prelude.{◌≡◌, ℕ, All, ◌==◌, ◌&&◌, not, Bool, true, false, List, [], ◌∷◌, ◌++◌, map, filter, flat_map, find, count_by, codes, if◌then◌else◌, Option, Some, None}
use Rattle.std.specs.Option.{option_map}
use Rattle.std.specs.Ordering.{is_lt}
use Rattle.std.specs.Cmp.Lexicographic.{pointwise}
use Rattle.std.specs.List.{list_all, list_any}
use Rattle.std.specs.Fmt.{decimal}
use Rattle.silo_address.specs.Silo.{Silo}
use Rattle.silo_address.specs.SiloText.{silo_text}
use Rattle.silo_address.specs.Grain.{Grain, grain_cmp, grain_eq, grain_text}
use Rattle.silo_address.specs.declared.Entry.{Entry}
use Rattle.silo_address.specs.Activation.{entry_eq}
use Rattle.membership_view.specs.declared.row.Row.{Row}
use Rattle.membership_view.specs.View.{ViewValue, listed_rows}
use Rattle.membership_view.specs.Views.{rows_in}
use Rattle.ring_range.specs.Range.{IsRange, EachHash, holds, ahead}
use Rattle.hash_ring.specs.Hash.{hash_grain}
use Rattle.hash_ring.specs.Point.{point_eq, IsOnCircle}
use Rattle.hash_ring.specs.Places.{PlacesValue, places_for}
use Rattle.hash_ring.specs.Owner.{owns}
use Rattle.hash_ring.specs.Ring.{sorted_ring}
use Rattle.directory_rules.specs.Members.{is_dead_in}
use Rattle.texts.specs.Words.{sentence}
use Rattle.dump_rules.specs.Dump.{DumpPhase, Asking, Firm, Closing, DumpState, Settled, Awaiting, Recovering, DumpHeld, DumpPiece, DumpNode, DumpRow, DumpValue}

-- what may be wrong with a dump
pub data DumpFault : Type 0 where
  -- the silo's ring isn't that of the view that it has seen
  RingDiffers : Silo → DumpFault
  -- the silo's pieces aren't what it owns by its ring, or an entry isn't where it belongs
  WrongRange : Silo → DumpFault
  -- the grain is firm on two silos
  TwoFirm : Grain → DumpFault
  -- a firm activation of the grain isn't entered where it has to be
  MissingFirm : Grain → DumpFault
  -- an entry of the grain names an activation that no silo holds
  Stranger : Grain → DumpFault

-- ---- What the rows of a dump say.
abbrev pub unless_never : ℕ → Option ℕ
unless_never version = if version == 0 then None else Some version

-- a row as the views have it
abbrev pub row_in_dump : DumpRow → Silo × Row
row_in_dump row = (row.silo, record { joined = row.joined; left = unless_never row.left; dead = unless_never row.dead })

-- the view of a version
abbrev pub dump_view : DumpValue → ℕ → ViewValue
dump_view dump version = record { version = version; rows = listed_rows (rows_in version (map row_in_dump dump.rows)) }

-- each silo's places
abbrev pub dump_places : DumpValue → PlacesValue
dump_places dump = record {
  hashing = dump.hashing;
  points = dump.points;
  entries = map (λ row. (row.silo, places_for dump.hashing dump.points row.silo row.places)) dump.rows;
}

-- the nodes of silos that aren't Dead in the current version
abbrev pub live_nodes : DumpValue → List DumpNode
live_nodes dump = filter (λ node. not (is_dead_in (dump_view dump dump.current) node.silo)) dump.nodes

-- ---- A node's ring is that of the view that its silo has seen, sorted anew.
abbrev pub has_its_ring : DumpValue → DumpNode → Bool
has_its_ring dump node = pointwise point_eq node.ring (sorted_ring (dump_view dump node.seen) (dump_places dump))

-- ---- A node's pieces hold each hash that its silo owns by its ring once, and no other; entries lie in their pieces, one a
-- grain. Which silo owns a hash, and how many pieces hold it, changes only at the places of the ring and where pieces begin
-- and end; so it is enough to look at these.
abbrev pub turning_hashes : DumpNode → List ℕ
turning_hashes node =
    map (λ point. point.place) node.ring
    ++ (map (λ piece. piece.range.start) node.pieces ++ map (λ piece. ahead piece.range.start piece.range.size) node.pieces)

-- whether one piece holds the hash where the silo owns it, and none elsewhere
abbrev pub is_held_as_owned : DumpNode → ℕ → Bool
is_held_as_owned node hash = count_by (λ piece. holds piece.range hash) node.pieces == (if owns node.ring node.silo hash then 1 else 0)

-- whether this is so at all turning hashes
abbrev pub has_its_ranges : DumpNode → Bool
has_its_ranges node = list_all (is_held_as_owned node) (turning_hashes node)

-- what a dump's reader makes sure of: places are hashes, and ranges are ranges
pub record HasHashes (node : DumpNode) : Type 0 where
  pub places : All IsOnCircle node.ring
  pub ranges : All (λ piece. IsRange piece.range) node.pieces

-- each hash that the silo owns by its ring is in one of its pieces, and any other in none
abbrev pub HasItsRanges : DumpNode → Type 0
HasItsRanges node = EachHash (λ hash. count_by (λ piece. holds piece.range hash) node.pieces ≡ (if owns node.ring node.silo hash then 1 else 0))

-- whether the entries of the piece are hashed into it
abbrev pub has_entries_inside : DumpValue → DumpPiece → Bool
has_entries_inside dump piece = list_all (λ entry. holds piece.range (hash_grain dump.hashing entry.grain)) piece.entries

-- all entries of a node
abbrev pub node_entries : DumpNode → List Entry
node_entries node = flat_map (λ piece. piece.entries) node.pieces

-- whether no grain stands twice
abbrev pub are_distinct : List Grain → Bool
are_distinct [] = true
are_distinct (grain ∷ grains) = not (list_any (grain_eq grain) grains) && are_distinct grains

-- whether they are of different grains
abbrev pub has_one_entry_a_grain : DumpNode → Bool
has_one_entry_a_grain node = are_distinct (map (λ entry. entry.grain) (node_entries node))

-- whether pieces and entries are as they must be
abbrev pub has_right_pieces : DumpValue → DumpNode → Bool
has_right_pieces dump node = has_its_ranges node && list_all (has_entries_inside dump) node.pieces && has_one_entry_a_grain node

-- ---- The activations, and the entries that must agree with them: those of settled pieces, on silos that have seen the
-- current version.
abbrev pub is_firm_phase : DumpPhase → Bool
is_firm_phase Asking = false
is_firm_phase Firm = true
is_firm_phase Closing = false

-- the tests for a firm activation and for a settled piece
abbrev pub is_settled_state : DumpState → Bool
is_settled_state Settled = true
is_settled_state Awaiting = false
is_settled_state Recovering = false

-- the entry that would name the activation
abbrev pub entry_of_held : DumpHeld → Entry
entry_of_held held = record { grain = held.grain; activation = held.activation }

-- all activations on occupant silos, each as its entry would be
abbrev pub held_entries : DumpValue → List Entry
held_entries dump = flat_map (λ node. map entry_of_held node.held) (live_nodes dump)

-- the firm ones of them
abbrev pub firm_held : DumpNode → List DumpHeld
firm_held node = filter (λ held. is_firm_phase held.phase) node.held

-- those of firm activations
abbrev pub firm_entries : DumpValue → List Entry
firm_entries dump = flat_map (λ node. map entry_of_held (firm_held node)) (live_nodes dump)

-- the grains that are firm on a node
abbrev pub firm_grains : DumpNode → List Grain
firm_grains node = map (λ held. held.grain) (firm_held node)

-- the settled pieces of silos that have seen the current version, and their entries
abbrev pub current_pieces : DumpValue → List DumpPiece
current_pieces dump =
    flat_map (λ node. filter (λ piece. is_settled_state piece.state) node.pieces) (filter (λ node. node.seen == dump.current) (live_nodes dump))

abbrev pub current_entries : DumpValue → List Entry
current_entries dump = flat_map (λ piece. piece.entries) (current_pieces dump)

-- whether the entry is one of these
abbrev pub is_entry_among : List Entry → Entry → Bool
is_entry_among entries entry = list_any (entry_eq entry) entries

-- whether the grain is firm on the node
abbrev pub is_firm_on : Grain → DumpNode → Bool
is_firm_on grain node = list_any (grain_eq grain) (firm_grains node)

-- the grains that are firm on a node and on a later one
abbrev pub firm_on_two : List DumpNode → List Grain
firm_on_two [] = []
firm_on_two (node ∷ nodes) = filter (λ grain. list_any (is_firm_on grain) nodes) (firm_grains node) ++ firm_on_two nodes

-- whether the entry of a firm activation is hashed into the piece, but isn't there
abbrev pub is_missing_in : DumpValue → Entry → DumpPiece → Bool
is_missing_in dump entry piece = holds piece.range (hash_grain dump.hashing entry.grain) && not (is_entry_among piece.entries entry)

-- the firm activations that are missing in such a piece
abbrev pub missing_firm : DumpValue → List Entry
missing_firm dump = filter (λ entry. list_any (is_missing_in dump entry) (current_pieces dump)) (firm_entries dump)

-- the entries of those pieces that name an activation which no silo holds for the grain
abbrev pub strangers : DumpValue → List Entry
strangers dump = filter (λ entry. not (is_entry_among (held_entries dump) entry)) (current_entries dump)

-- ---- The first fault: by silo, then by grain.
abbrev pub lesser_grain : Grain → Option Grain → Grain
lesser_grain grain None = grain
lesser_grain grain (Some other) = if is_lt (grain_cmp other grain) then other else grain

-- the least of grains, if there is one
abbrev pub least_grain : List Grain → Option Grain
least_grain [] = None
least_grain (grain ∷ grains) = Some (lesser_grain grain (least_grain grains))

-- the first node that doesn't pass the test
abbrev pub first_failing : (DumpNode → Bool) → List DumpNode → Option Silo
first_failing test nodes = option_map (λ node. node.silo) (find (λ node. not (test node)) nodes)

-- the first fault, if there is one
abbrev pub first_of : List (Option DumpFault) → Option DumpFault
first_of [] = None
first_of (None ∷ faults) = first_of faults
first_of (Some fault ∷ faults) = Some fault

-- the verdict: none where all is right, else the first fault in this order, with the least silo or grain
unfoldable pub verdict : DumpValue → Option DumpFault
verdict dump = first_of
    (option_map RingDiffers (first_failing (has_its_ring dump) (live_nodes dump))
    ∷ option_map WrongRange (first_failing (has_right_pieces dump) (live_nodes dump))
    ∷ option_map TwoFirm (least_grain (firm_on_two (live_nodes dump)))
    ∷ option_map MissingFirm (least_grain (map (λ entry. entry.grain) (missing_firm dump)))
    ∷ option_map Stranger (least_grain (map (λ entry. entry.grain) (strangers dump)))
    ∷ [])

-- ---- Its line.
abbrev pub fault_number : DumpFault → ℕ
fault_number (RingDiffers silo) = 973
fault_number (MissingFirm grain) = 974
fault_number (Stranger grain) = 975
fault_number (TwoFirm grain) = 976
fault_number (WrongRange silo) = 977

-- the silo or grain that a fault names
abbrev pub fault_subject : DumpFault → List ℕ
fault_subject (RingDiffers silo) = silo_text silo
fault_subject (WrongRange silo) = silo_text silo
fault_subject (TwoFirm grain) = grain_text grain
fault_subject (MissingFirm grain) = grain_text grain
fault_subject (Stranger grain) = grain_text grain

-- the words of the verdict
abbrev pub verdict_words : Option DumpFault → List (List ℕ)
verdict_words None = codes "ok" ∷ []
verdict_words (Some fault) = decimal (fault_number fault) ∷ fault_subject fault ∷ []

-- the verdict's line
abbrev pub verdict_line : Option DumpFault → List ℕ
verdict_line fault = sentence (codes "check" ∷ verdict_words fault)
