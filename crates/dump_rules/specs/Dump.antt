-- The dump: a world's rows and nodes as plain lists, and the text of these.
use Rattle.std.specs.Prelude.{ℕ, ◌==◌, ◌||◌, List, [], ◌∷◌, ◌++◌, map, flat_map, codes, if◌then◌else◌, Option, Some, None}
use Rattle.std.specs.Option.{unwrap_or}
use Rattle.std.specs.List.{join_with_byte}
use Rattle.std.specs.Fmt.{decimal}
use Rattle.silo_address.specs.Silo.{Silo}
use Rattle.silo_address.specs.SiloText.{silo_text}
use Rattle.silo_address.specs.Grain.{Grain, grain_text}
use Rattle.silo_address.specs.declared.ActivationId.{ActivationId}
use Rattle.silo_address.specs.declared.Entry.{Entry}
use Rattle.silo_address.specs.ActivationText.{activation_text}
use Rattle.membership_view.specs.declared.row.Row.{Row}
use Rattle.ring_range.specs.Range.{Range}
use Rattle.ring_range.specs.Text.{range_text}
use Rattle.hash_ring.specs.declared.hashing.Hashing.{Hashing}
use Rattle.hash_ring.specs.declared.hashing.Hashing.TheVariants.{Sha256, Stated}
use Rattle.hash_ring.specs.declared.point.Point.{Point}
use Rattle.hash_ring.specs.Places.{PlacesValue, named_places}
use Rattle.directory_rules.specs.declared.held.Held.{Held}
use Rattle.directory_rules.specs.declared.held.Phase.{Phase}
use Rattle.directory_rules.specs.declared.held.Phase.TheVariants as phase
use Rattle.directory_rules.specs.declared.piece_state.PieceState.{PieceState}
use Rattle.directory_rules.specs.declared.piece_state.PieceState.TheVariants as state
use Rattle.directory_rules.specs.Table.{entries_of}
use Rattle.directory_rules.specs.State.{Piece, Node, World}

-- ---- The lists. A list that is read may say anything; one that a world gives says what the world has.

-- the phase of an activation, without the number under which it asks
pub data DumpPhase : Type 0 where
  Asking : DumpPhase
  Firm : DumpPhase
  Closing : DumpPhase

-- the state of a piece; from whom it awaits its entries is said apart
pub data DumpState : Type 0 where
  Settled : DumpState
  Awaiting : DumpState
  Recovering : DumpState

-- an activation on its silo
pub record DumpHeld : Type 0 where
  pub activation : ActivationId
  pub grain : Grain
  pub phase : DumpPhase

-- a piece of what a silo owns
pub record DumpPiece : Type 0 where
  -- in the order of their grains
  pub entries : List Entry
  pub from : Option Silo
  pub range : Range
  pub state : DumpState

-- what one silo has
pub record DumpNode : Type 0 where
  -- in the order in which they began
  pub held : List DumpHeld
  -- by start
  pub pieces : List DumpPiece
  pub ring : List Point
  -- the version that the silo has seen
  pub seen : ℕ
  pub silo : Silo

-- a silo that ever joined, with the versions in which it became Dead, joined and became Leaving: 0 for never
pub record DumpRow : Type 0 where
  pub dead : ℕ
  pub joined : ℕ
  pub left : ℕ
  -- those named at its join
  pub places : List ℕ
  pub silo : Silo

-- a whole dump
pub record DumpValue : Type 0 where
  -- the current version
  pub current : ℕ
  pub hashing : Hashing
  -- by address
  pub nodes : List DumpNode
  -- how many points a silo has where points are hashed
  pub points : ℕ
  -- by address
  pub rows : List DumpRow

-- ---- The dump of a world.
abbrev pub dump_phase : Phase → DumpPhase
dump_phase (phase.Asking number) = Asking
dump_phase phase.Firm = Firm
dump_phase (phase.Closing number) = Closing

-- the state without the silo from which entries are awaited
abbrev pub dump_state : PieceState → DumpState
dump_state state.Settled = Settled
dump_state (state.Awaiting from) = Awaiting
dump_state state.Recovering = Recovering

-- that silo
abbrev pub awaited_from : PieceState → Option Silo
awaited_from state.Settled = None
awaited_from (state.Awaiting from) = Some from
awaited_from state.Recovering = None

-- parts of a world as a dump's parts
abbrev pub dump_held : Silo → Grain → Held → DumpHeld
dump_held silo grain held = record { activation = record { silo = silo; count = held.count }; grain = grain; phase = dump_phase held.phase }

abbrev pub dump_piece : Piece → DumpPiece
dump_piece piece = record {
  entries = entries_of piece.entries;
  from = awaited_from piece.state;
  range = piece.range;
  state = dump_state piece.state;
}

abbrev pub dump_node : Silo → Node → DumpNode
dump_node silo node = record {
  held = map (λ e. dump_held silo e.0 e.1) node.host.held;
  pieces = map (λ e. dump_piece e.1) node.holding.pieces;
  ring = node.ring.points;
  seen = node.view.version;
  silo = silo;
}

-- a silo's row
abbrev pub dump_row : PlacesValue → Silo → Row → DumpRow
dump_row places silo row = record {
  dead = unwrap_or row.dead 0;
  joined = row.joined;
  left = unwrap_or row.left 0;
  places = named_places places.hashing places silo;
  silo = silo;
}

-- the world's dump
unfoldable pub dump_of : World → DumpValue
dump_of world = record {
  current = world.views.version;
  hashing = world.settings.hashing;
  nodes = map (λ e. dump_node e.0 e.1) world.nodes;
  points = world.settings.points;
  rows = map (λ e. dump_row world.places e.0 e.1) world.views.rows;
}

-- ---- The text: one JSON object without spaces, the members of each object in the order of their names.
abbrev pub quotation_mark : ℕ
quotation_mark = 34

abbrev pub backslash : ℕ
backslash = 92

abbrev pub comma : ℕ
comma = 44

-- a byte of a visible text inside quotation marks
abbrev pub escaped : ℕ → List ℕ
escaped byte = if (byte == quotation_mark) || (byte == backslash) then backslash ∷ byte ∷ [] else byte ∷ []

-- a text as JSON has it
abbrev pub quoted : List ℕ → List ℕ
quoted text = quotation_mark ∷ (flat_map escaped text ++ quotation_mark ∷ [])

-- a list, a member under its name, and an object
abbrev pub json_list : List (List ℕ) → List ℕ
json_list items = codes "[" ++ (join_with_byte comma items ++ codes "]")

abbrev pub json_member : List ℕ × List ℕ → List ℕ
json_member member = quoted member.0 ++ (codes ":" ++ member.1)

abbrev pub json_object : List (List ℕ × List ℕ) → List ℕ
json_object members = codes "{" ++ (join_with_byte comma (map json_member members) ++ codes "}")

-- the words for hashings, phases and states
abbrev pub hashing_word : Hashing → List ℕ
hashing_word Sha256 = codes "sha256"
hashing_word Stated = codes "stated"

abbrev pub dump_phase_word : DumpPhase → List ℕ
dump_phase_word Asking = codes "asking"
dump_phase_word Firm = codes "firm"
dump_phase_word Closing = codes "closing"

abbrev pub dump_state_word : DumpState → List ℕ
dump_state_word Settled = codes "settled"
dump_state_word Awaiting = codes "awaiting"
dump_state_word Recovering = codes "recovering"

-- the previous owner, and the empty text for none
abbrev pub from_text : Option Silo → List ℕ
from_text None = []
from_text (Some silo) = silo_text silo

-- the parts of a dump as JSON
abbrev pub entry_json : Entry → List ℕ
entry_json entry = json_list (quoted (grain_text entry.grain) ∷ quoted (activation_text entry.activation) ∷ [])

abbrev pub point_json : Point → List ℕ
point_json point = json_list (decimal point.place ∷ quoted (silo_text point.silo) ∷ decimal point.index ∷ [])

abbrev pub held_json : DumpHeld → List ℕ
held_json held = json_object
    ((codes "activation", quoted (activation_text held.activation))
    ∷ (codes "grain", quoted (grain_text held.grain))
    ∷ (codes "phase", quoted (dump_phase_word held.phase))
    ∷ [])

abbrev pub piece_json : DumpPiece → List ℕ
piece_json piece = json_object
    ((codes "entries", json_list (map entry_json piece.entries))
    ∷ (codes "from", quoted (from_text piece.from))
    ∷ (codes "range", quoted (range_text piece.range))
    ∷ (codes "state", quoted (dump_state_word piece.state))
    ∷ [])

abbrev pub node_json : DumpNode → List ℕ
node_json node = json_object
    ((codes "held", json_list (map held_json node.held))
    ∷ (codes "pieces", json_list (map piece_json node.pieces))
    ∷ (codes "ring", json_list (map point_json node.ring))
    ∷ (codes "seen", decimal node.seen)
    ∷ (codes "silo", quoted (silo_text node.silo))
    ∷ [])

abbrev pub row_json : DumpRow → List ℕ
row_json row = json_object
    ((codes "dead", decimal row.dead)
    ∷ (codes "joined", decimal row.joined)
    ∷ (codes "left", decimal row.left)
    ∷ (codes "places", json_list (map decimal row.places))
    ∷ (codes "silo", quoted (silo_text row.silo))
    ∷ [])

-- the text of a dump
unfoldable pub dump_text : DumpValue → List ℕ
dump_text dump = json_object
    ((codes "current", decimal dump.current)
    ∷ (codes "hashing", quoted (hashing_word dump.hashing))
    ∷ (codes "nodes", json_list (map node_json dump.nodes))
    ∷ (codes "points", decimal dump.points)
    ∷ (codes "rows", json_list (map row_json dump.rows))
    ∷ [])
