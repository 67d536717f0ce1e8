-- The dump that a JSON value tells, its members in any order: nothing where a member is unknown, missing, of another type or
-- unreadable.
use Rattle.std.specs.Prelude.{[], ◌∷◌, codes, Option, Some, option_and_then}
use Rattle.serde_json.specs.Data.{Data}
use Rattle.serde_json.specs.Find.{as_array}
use Rattle.silo_address.specs.Chain.{◌>>=◌}
use Rattle.silo_address.specs.declared.Entry.{Entry}
use Rattle.hash_ring.specs.declared.hashing.Hashing.{Hashing}
use Rattle.hash_ring.specs.declared.hashing.Hashing.TheVariants.{Sha256, Stated}
use Rattle.hash_ring.specs.declared.point.Point.{Point}
use Rattle.dump_rules.specs.Dump.{DumpPhase, Asking, Firm, Closing, DumpState, Settled, Awaiting, Recovering, DumpHeld, DumpPiece, DumpNode, DumpRow, DumpValue, hashing_word, dump_phase_word, dump_state_word}
use Rattle.dump_rules.specs.Values.{number_in, silo_in, grain_in, activation_in, range_in, from_in, word_in, list_in, two_items, three_items, members_in, member_in}

-- ---- Words.
abbrev pub hashing_in : Data → Option Hashing
hashing_in = word_in ((hashing_word Sha256, Sha256) ∷ (hashing_word Stated, Stated) ∷ [])

abbrev pub phase_in : Data → Option DumpPhase
phase_in = word_in ((dump_phase_word Asking, Asking) ∷ (dump_phase_word Firm, Firm) ∷ (dump_phase_word Closing, Closing) ∷ [])

abbrev pub state_in : Data → Option DumpState
state_in = word_in ((dump_state_word Settled, Settled) ∷ (dump_state_word Awaiting, Awaiting) ∷ (dump_state_word Recovering, Recovering) ∷ [])

-- ---- Lists of two and of three.
abbrev pub entry_of : Data × Data → Option Entry
entry_of pair = do
  grain ← grain_in pair.0
  activation ← activation_in pair.1
  Some (record { grain = grain; activation = activation })

abbrev pub entry_in : Data → Option Entry
entry_in value = option_and_then entry_of (option_and_then two_items (as_array value))

abbrev pub point_of : Data × Data × Data → Option Point
point_of triple = do
  place ← number_in triple.0
  silo ← silo_in triple.1
  index ← number_in triple.2
  Some (record { place = place; silo = silo; index = index })

abbrev pub point_in : Data → Option Point
point_in value = option_and_then point_of (option_and_then three_items (as_array value))

-- ---- Objects.
abbrev pub held_in : Data → Option DumpHeld
held_in value = do
  members ← members_in 3 value
  activation ← member_in activation_in (codes "activation") members
  grain ← member_in grain_in (codes "grain") members
  phase ← member_in phase_in (codes "phase") members
  Some (record { activation = activation; grain = grain; phase = phase })

abbrev pub piece_in : Data → Option DumpPiece
piece_in value = do
  members ← members_in 4 value
  entries ← member_in (list_in entry_in) (codes "entries") members
  from ← member_in from_in (codes "from") members
  range ← member_in range_in (codes "range") members
  state ← member_in state_in (codes "state") members
  Some (record { entries = entries; from = from; range = range; state = state })

abbrev pub node_in : Data → Option DumpNode
node_in value = do
  members ← members_in 5 value
  held ← member_in (list_in held_in) (codes "held") members
  pieces ← member_in (list_in piece_in) (codes "pieces") members
  ring ← member_in (list_in point_in) (codes "ring") members
  seen ← member_in number_in (codes "seen") members
  silo ← member_in silo_in (codes "silo") members
  Some (record { held = held; pieces = pieces; ring = ring; seen = seen; silo = silo })

abbrev pub row_in : Data → Option DumpRow
row_in value = do
  members ← members_in 5 value
  dead ← member_in number_in (codes "dead") members
  joined ← member_in number_in (codes "joined") members
  left ← member_in number_in (codes "left") members
  places ← member_in (list_in number_in) (codes "places") members
  silo ← member_in silo_in (codes "silo") members
  Some (record { dead = dead; joined = joined; left = left; places = places; silo = silo })

-- the whole dump
unfoldable pub dump_in : Data → Option DumpValue
dump_in value = do
  members ← members_in 5 value
  current ← member_in number_in (codes "current") members
  hashing ← member_in hashing_in (codes "hashing") members
  nodes ← member_in (list_in node_in) (codes "nodes") members
  points ← member_in number_in (codes "points") members
  rows ← member_in (list_in row_in) (codes "rows") members
  Some (record { current = current; hashing = hashing; nodes = nodes; points = points; rows = rows })
