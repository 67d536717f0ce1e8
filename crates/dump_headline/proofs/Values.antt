-- A dump as a JSON value.
use Rattle.std.specs.Prelude.{ℕ, List, [], ◌∷◌, codes}
use Rattle.serde_json.specs.Data.{unsigned, Data, number, string, array, object, Items, no_items, item, Members, no_members, member}
use Rattle.silo_address.specs.SiloText.{silo_text}
use Rattle.silo_address.specs.Grain.{grain_text}
use Rattle.silo_address.specs.declared.Entry.{Entry}
use Rattle.silo_address.specs.ActivationText.{activation_text}
use Rattle.ring_range.specs.Text.{range_text}
use Rattle.hash_ring.specs.declared.point.Point.{Point}
use Rattle.dump_rules.specs.Dump.{DumpHeld, DumpPiece, DumpNode, DumpRow, DumpValue, hashing_word, dump_phase_word, dump_state_word, from_text}

abbrev pub number_value : ℕ → Data
number_value n = number (unsigned n)

-- lists, of whatever is told of each item
abbrev pub items_of : {X : Type 0} → (X → Data) → List X → Items
items_of value [] = no_items
items_of value (x ∷ xs) = item (value x) (items_of value xs)

abbrev pub list_value : {X : Type 0} → (X → Data) → List X → Data
list_value value xs = array (items_of value xs)

-- objects
abbrev pub members_of : List (List ℕ × Data) → Members
members_of [] = no_members
members_of (m ∷ ms) = member m.0 m.1 (members_of ms)

abbrev pub object_value : List (List ℕ × Data) → Data
object_value ms = object (members_of ms)

-- the parts of a dump
abbrev pub entry_value : Entry → Data
entry_value entry = list_value string (grain_text entry.grain ∷ activation_text entry.activation ∷ [])

abbrev pub point_value : Point → Data
point_value point = list_value (λ d. d) (number_value point.place ∷ string (silo_text point.silo) ∷ number_value point.index ∷ [])

abbrev pub held_value : DumpHeld → Data
held_value held = object_value
    ((codes "activation", string (activation_text held.activation))
    ∷ (codes "grain", string (grain_text held.grain))
    ∷ (codes "phase", string (dump_phase_word held.phase))
    ∷ [])

abbrev pub piece_value : DumpPiece → Data
piece_value piece = object_value
    ((codes "entries", list_value entry_value piece.entries)
    ∷ (codes "from", string (from_text piece.from))
    ∷ (codes "range", string (range_text piece.range))
    ∷ (codes "state", string (dump_state_word piece.state))
    ∷ [])

abbrev pub node_value : DumpNode → Data
node_value node = object_value
    ((codes "held", list_value held_value node.held)
    ∷ (codes "pieces", list_value piece_value node.pieces)
    ∷ (codes "ring", list_value point_value node.ring)
    ∷ (codes "seen", number_value node.seen)
    ∷ (codes "silo", string (silo_text node.silo))
    ∷ [])

abbrev pub row_value : DumpRow → Data
row_value row = object_value
    ((codes "dead", number_value row.dead)
    ∷ (codes "joined", number_value row.joined)
    ∷ (codes "left", number_value row.left)
    ∷ (codes "places", list_value number_value row.places)
    ∷ (codes "silo", string (silo_text row.silo))
    ∷ [])

-- the whole
abbrev pub dump_value : DumpValue → Data
dump_value dump = object_value
    ((codes "current", number_value dump.current)
    ∷ (codes "hashing", string (hashing_word dump.hashing))
    ∷ (codes "nodes", list_value node_value dump.nodes)
    ∷ (codes "points", number_value dump.points)
    ∷ (codes "rows", list_value row_value dump.rows)
    ∷ [])
