-- The text of a dump is that of its value, which is a plain one.
use Rattle.std.proofs.Common.{arith, ◌≡◌, ℕ, suc, ◌<◌, ◌^◌, true, false, List, [], ◌∷◌, ◌++◌, map, decimal, refl, ap, ◌∙◌, append_assoc}
use Rattle.std.specs.Prelude.{⊤, codes, All, Option, Some, None, IfSome}
use Rattle.std.specs.List.{join_with_byte}
use Rattle.std.proofs.lemmas.List.Elements.{All-nil, All-cons, All-head, All-tail, All-weaker}
use Rattle.json.specs.Print as print
use Rattle.serde_json.specs.Data.{Data, string, Members, no_members}
use Rattle.serde_json.specs.Written.{compact_text, items_text, members_text}
use Rattle.silo_address.specs.Silo.{Silo, IsSilo}
use Rattle.silo_address.specs.SiloText.{silo_text}
use Rattle.silo_address.specs.Grain.{grain_text}
use Rattle.silo_address.specs.declared.Entry.{Entry}
use Rattle.silo_address.specs.ActivationText.{activation_text}
use Rattle.ring_range.specs.Range.{IsRange, circle}
use Rattle.ring_range.specs.Text.{range_text}
use Rattle.hash_ring.specs.declared.hashing.Hashing.{Hashing}
use Rattle.hash_ring.specs.declared.hashing.Hashing.TheVariants.{Sha256, Stated}
use Rattle.hash_ring.specs.declared.point.Point.{Point}
use Rattle.dump_rules.specs.Dump.{DumpPhase, Asking, Firm, Closing, DumpState, Settled, Awaiting, Recovering, DumpHeld, DumpPiece, DumpNode, DumpRow, DumpValue, hashing_word, dump_phase_word, dump_state_word, from_text, quoted, json_list, json_member, json_object, entry_json, point_json, held_json, piece_json, node_json, row_json, dump_text}
use Rattle.dump_rules.specs.RightShape.{HasRowNumbers, HasPointNumbers, HasNodeNumbers, HasNumbers}
use Rattle.dump_headline.specs.Named.{IsNamedFor, HasPieceNames, HasNodeNames, HasNames}
use Rattle.dump_headline.proofs.Visible.{AreVisible, visible_by, silo_visible, activation_visible, range_visible, quoted_same}
use Rattle.dump_headline.proofs.Plain.{is_after, push, IsPlain, ArePlain, HasPlain}
use Rattle.dump_headline.proofs.Values.{number_value, items_of, list_value, members_of, object_value, entry_value, point_value, held_value, piece_value, node_value, row_value, dump_value}

-- a text is that of a value, which is plain
abbrev pub Tells : ℕ → List ℕ → Data → Type 0
Tells depth text value = IsPlain value depth × (text ≡ compact_text value)

-- ---- lists
module _ {X : Type 0} (depth : ℕ) (text : X → List ℕ) (value : X → Data) where
  abbrev Each : List X → Type 0
  Each xs = All (λ x. Tells depth (text x) (value x)) xs

  plain_items : (xs : List X) → Each xs → ArePlain (items_of value xs) depth
  plain_items [] each = tt
  plain_items (x ∷ xs) each = (
    (All-head (λ y. Tells depth (text y) (value y)) x xs each).0,
    plain_items xs
        (All-tail (λ y. Tells depth (text y) (value y)) x xs each),
  )

  items_joined : (xs : List X) → Each xs → join_with_byte 44 (map text xs) ++ 93 ∷ [] ≡ items_text false (items_of value xs)
  items_joined [] each = refl
  items_joined (x ∷ []) each = ap (λ t. t ++ 93 ∷ []) (All-head (λ y. Tells depth (text y) (value y)) x [] each).1
  items_joined (x ∷ y ∷ xs) each =
      let first = (All-head (λ z. Tells depth (text z) (value z)) x (y ∷ xs) each).1 in
      let rest = items_joined (y ∷ xs) (All-tail (λ z. Tells depth (text z) (value z)) x (y ∷ xs) each) in
      append_assoc (text x) (44 ∷ join_with_byte 44 (map text (y ∷ xs))) (93 ∷ [])
      ∙ ap (λ t. t ++ 44 ∷ (join_with_byte 44 (map text (y ∷ xs)) ++ 93 ∷ [])) first ∙ ap (λ t. compact_text (value x) ++ 44 ∷ t) rest

  pub list_told : (xs : List X) → Each xs → Tells (suc depth) (json_list (map text xs)) (list_value value xs)
  list_told xs each = (plain_items xs each, ap (λ t. 91 ∷ t) (items_joined xs each))

-- ---- objects: what is told under each name
record Told : Type 0 where
  name : List ℕ
  text : List ℕ
  value : Data

abbrev named_texts : List Told → List (List ℕ × List ℕ)
named_texts ms = map (λ m. (m.name, m.text)) ms

abbrev named_values : List Told → List (List ℕ × Data)
named_values ms = map (λ m. (m.name, m.value)) ms

module _ (depth : ℕ) where
  -- the names are visible and in order, after those before
  abbrev AreTold : Members → List Told → Type 0
  AreTold before [] = ⊤
  AreTold before (m ∷ ms) =
      AreVisible m.name × (is_after m.name before ≡ true) × Tells depth m.text m.value × AreTold (push m.name m.value before) ms

  plain_members : (before : Members) (ms : List Told) → AreTold before ms → HasPlain before (members_of (named_values ms)) depth
  plain_members before [] are = tt
  plain_members before (m ∷ ms) are = (are.0, are.1, are.2.0, plain_members (push m.name m.value before) ms are.3)

  one_member : (m : Told) → AreVisible m.name → Tells depth m.text m.value
      → json_member (m.name, m.text) ≡ print.quoted m.name ++ 58 ∷ compact_text m.value
  one_member m visible is = ap (λ t. t ++ 58 ∷ m.text) (quoted_same m.name visible) ∙ ap (λ t. print.quoted m.name ++ 58 ∷ t) is.1

  members_joined : (before : Members) (ms : List Told) → AreTold before ms
      → join_with_byte 44 (map json_member (named_texts ms)) ++ 125 ∷ [] ≡ members_text false (members_of (named_values ms))
  members_joined before [] are = refl
  members_joined before (m ∷ []) are =
      ap (λ t. t ++ 125 ∷ []) (one_member m are.0 are.2) ∙ append_assoc (print.quoted m.name) (58 ∷ compact_text m.value) (125 ∷ [])
  members_joined before (m ∷ n ∷ ms) are =
      let rest = members_joined (push m.name m.value before) (n ∷ ms) are.3 in
      let after = join_with_byte 44 (map json_member (named_texts (n ∷ ms))) in
      append_assoc (json_member (m.name, m.text)) (44 ∷ after) (125 ∷ [])
      ∙ ap (λ t. t ++ 44 ∷ (after ++ 125 ∷ [])) (one_member m are.0 are.2)
      ∙ append_assoc (print.quoted m.name) (58 ∷ compact_text m.value) (44 ∷ (after ++ 125 ∷ []))
      ∙ ap (λ t. print.quoted m.name ++ 58 ∷ (compact_text m.value ++ 44 ∷ t)) rest

  object_told : (ms : List Told) → AreTold no_members ms → Tells (suc depth) (json_object (named_texts ms)) (object_value (named_values ms))
  object_told ms are = (plain_members no_members ms are, ap (λ t. 123 ∷ t) (members_joined no_members ms are))

abbrev told : List ℕ → List ℕ → Data → Told
told name text value = record { name = name; text = text; value = value }

-- ---- numbers and texts
number_told : (depth n : ℕ) → n < 2 ^ 64 → Tells depth (decimal n) (number_value n)
number_told depth n fits = (fits, refl)

string_told : (depth : ℕ) (text : List ℕ) → AreVisible text → Tells depth (quoted text) (string text)
string_told depth text visible = (visible, quoted_same text visible)

-- ---- words
hashing_visible : (hashing : Hashing) → AreVisible (hashing_word hashing)
hashing_visible Sha256 = visible_by (codes "sha256") refl
hashing_visible Stated = visible_by (codes "stated") refl

phase_visible : (phase : DumpPhase) → AreVisible (dump_phase_word phase)
phase_visible Asking = visible_by (codes "asking") refl
phase_visible Firm = visible_by (codes "firm") refl
phase_visible Closing = visible_by (codes "closing") refl

state_visible : (state : DumpState) → AreVisible (dump_state_word state)
state_visible Settled = visible_by (codes "settled") refl
state_visible Awaiting = visible_by (codes "awaiting") refl
state_visible Recovering = visible_by (codes "recovering") refl

from_visible : (from : Option Silo) → IfSome from IsSilo → AreVisible (from_text from)
from_visible None is = visible_by [] refl
from_visible (Some silo) is = silo_visible silo is

-- ---- the parts of a dump
entry_told : (entry : Entry) → IsNamedFor entry.grain entry.activation → Tells 1 (entry_json entry) (entry_value entry)
entry_told entry is =
    let grain = is.0.visible in
    let activation = activation_visible entry.activation is.1.silo is.1.count in
    list_told 0 quoted string (grain_text entry.grain ∷ activation_text entry.activation ∷ [])
    (All-cons (λ text. Tells 0 (quoted text) (string text)) (grain_text entry.grain) (activation_text entry.activation ∷ [])
    (string_told 0 (grain_text entry.grain) grain)
    (All-cons (λ text. Tells 0 (quoted text) (string text)) (activation_text entry.activation) []
    (string_told 0 (activation_text entry.activation) activation) (All-nil (λ text. Tells 0 (quoted text) (string text)))))

-- a text beside its value
point_told : (point : Point) → HasPointNumbers point → IsSilo point.silo → Tells 3 (point_json point) (point_value point)
point_told point has is =
    let place = has.place in
    let P = λ (p : List ℕ × Data). Tells 2 p.0 p.1 in
    let one : List ℕ × Data = (decimal point.place, number_value point.place) in
    let two : List ℕ × Data = (quoted (silo_text point.silo), string (silo_text point.silo)) in
    let three : List ℕ × Data = (decimal point.index, number_value point.index) in
    list_told 2 (λ (p : List ℕ × Data). p.0) (λ p. p.1) (one ∷ two ∷ three ∷ [])
    (All-cons P one (two ∷ three ∷ []) (number_told 2 point.place (omega (arith, place)))
    (All-cons P two (three ∷ []) (string_told 2 (silo_text point.silo) (silo_visible point.silo is))
    (All-cons P three [] (number_told 2 point.index has.index) (All-nil P))))

held_told : (held : DumpHeld) → IsNamedFor held.grain held.activation → Tells 3 (held_json held) (held_value held)
held_told held is =
    object_told 2
    (told (codes "activation") (quoted (activation_text held.activation)) (string (activation_text held.activation))
    ∷ told (codes "grain") (quoted (grain_text held.grain)) (string (grain_text held.grain))
    ∷ told (codes "phase") (quoted (dump_phase_word held.phase)) (string (dump_phase_word held.phase))
    ∷ []) (
      visible_by (codes "activation") refl,
      refl,
      string_told 2 (activation_text held.activation) (activation_visible held.activation is.1.silo is.1.count),
      (
        visible_by (codes "grain") refl,
        refl,
        string_told 2 (grain_text held.grain) is.0.visible,
        (visible_by (codes "phase") refl, refl, string_told 2 (dump_phase_word held.phase) (phase_visible held.phase), tt),
      ),
    )

piece_told : (piece : DumpPiece) → IsRange piece.range → HasPieceNames piece → Tells 3 (piece_json piece) (piece_value piece)
piece_told piece range has =
    object_told 2
    (told (codes "entries") (json_list (map entry_json piece.entries)) (list_value entry_value piece.entries)
    ∷ told (codes "from") (quoted (from_text piece.from)) (string (from_text piece.from))
    ∷ told (codes "range") (quoted (range_text piece.range)) (string (range_text piece.range))
    ∷ told (codes "state") (quoted (dump_state_word piece.state)) (string (dump_state_word piece.state))
    ∷ []) (
      visible_by (codes "entries") refl,
      refl,
      list_told 1 entry_json entry_value piece.entries
          (All-weaker (λ entry. IsNamedFor entry.grain entry.activation) (λ entry. Tells 1 (entry_json entry) (entry_value entry))
          entry_told piece.entries has.entries),
      (
        visible_by (codes "from") refl,
        refl,
        string_told 2 (from_text piece.from) (from_visible piece.from has.from),
        (
          visible_by (codes "range") refl,
          refl,
          string_told 2 (range_text piece.range) (range_visible piece.range range),
          (visible_by (codes "state") refl, refl, string_told 2 (dump_state_word piece.state) (state_visible piece.state), tt),
        ),
      ),
    )

-- what holds of both
pub both_all : {X : Type 0} (P Q : X → Type 0) (xs : List X) → All P xs → All Q xs → All (λ x. P x × Q x) xs
both_all P Q xs one other = λ k d below. (one k d below, other k d below)

node_told : (node : DumpNode) → HasNodeNumbers node → HasNodeNames node → Tells 5 (node_json node) (node_value node)
node_told node numbers has =
    object_told 4
    (told (codes "held") (json_list (map held_json node.held)) (list_value held_value node.held)
    ∷ told (codes "pieces") (json_list (map piece_json node.pieces)) (list_value piece_value node.pieces)
    ∷ told (codes "ring") (json_list (map point_json node.ring)) (list_value point_value node.ring)
    ∷ told (codes "seen") (decimal node.seen) (number_value node.seen)
    ∷ told (codes "silo") (quoted (silo_text node.silo)) (string (silo_text node.silo))
    ∷ []) (
      visible_by (codes "held") refl,
      refl,
      list_told 3 held_json held_value node.held (All-weaker (λ held. IsNamedFor held.grain held.activation)
          (λ held. Tells 3 (held_json held) (held_value held)) held_told node.held has.held),
      (
        visible_by (codes "pieces") refl,
        refl,
        list_told 3 piece_json piece_value node.pieces
            (All-weaker (λ piece. IsRange piece.range × HasPieceNames piece) (λ piece. Tells 3 (piece_json piece) (piece_value piece))
            (λ piece is. piece_told piece is.0 is.1) node.pieces
            (both_all (λ piece. IsRange piece.range) HasPieceNames node.pieces numbers.pieces has.pieces)),
        (
          visible_by (codes "ring") refl,
          refl,
          list_told 3 point_json point_value node.ring
              (All-weaker (λ point. HasPointNumbers point × IsSilo point.silo) (λ point. Tells 3 (point_json point) (point_value point))
              (λ point is. point_told point is.0 is.1) node.ring
              (both_all HasPointNumbers (λ point. IsSilo point.silo) node.ring numbers.ring has.ring)),
          (
            visible_by (codes "seen") refl,
            refl,
            number_told 4 node.seen numbers.seen,
            (visible_by (codes "silo") refl, refl, string_told 4 (silo_text node.silo) (silo_visible node.silo has.silo), tt),
          ),
        ),
      ),
    )

row_told : (row : DumpRow) → HasRowNumbers row → IsSilo row.silo → Tells 5 (row_json row) (row_value row)
row_told row numbers is =
    object_told 4
    (told (codes "dead") (decimal row.dead) (number_value row.dead)
    ∷ told (codes "joined") (decimal row.joined) (number_value row.joined)
    ∷ told (codes "left") (decimal row.left) (number_value row.left)
    ∷ told (codes "places") (json_list (map decimal row.places)) (list_value number_value row.places)
    ∷ told (codes "silo") (quoted (silo_text row.silo)) (string (silo_text row.silo))
    ∷ []) (
      visible_by (codes "dead") refl,
      refl,
      number_told 4 row.dead numbers.dead,
      (
        visible_by (codes "joined") refl,
        refl,
        number_told 4 row.joined numbers.joined,
        (
          visible_by (codes "left") refl,
          refl,
          number_told 4 row.left numbers.left,
          (
            visible_by (codes "places") refl,
            refl,
            list_told 3 decimal number_value row.places
                (All-weaker (λ place. place < circle) (λ place. Tells 3 (decimal place) (number_value place))
                (λ place below. number_told 3 place (omega (arith, below))) row.places numbers.places),
            (visible_by (codes "silo") refl, refl, string_told 4 (silo_text row.silo) (silo_visible row.silo is), tt),
          ),
        ),
      ),
    )

pub dump_told : (dump : DumpValue) → HasNumbers dump → HasNames dump → Tells 7 (dump_text dump) (dump_value dump)
unfolding dump_text
dump_told dump numbers has =
    let points = numbers.points_within in
    object_told 6
    (told (codes "current") (decimal dump.current) (number_value dump.current)
    ∷ told (codes "hashing") (quoted (hashing_word dump.hashing)) (string (hashing_word dump.hashing))
    ∷ told (codes "nodes") (json_list (map node_json dump.nodes)) (list_value node_value dump.nodes)
    ∷ told (codes "points") (decimal dump.points) (number_value dump.points)
    ∷ told (codes "rows") (json_list (map row_json dump.rows)) (list_value row_value dump.rows)
    ∷ []) (
      visible_by (codes "current") refl,
      refl,
      number_told 6 dump.current numbers.current,
      (
        visible_by (codes "hashing") refl,
        refl,
        string_told 6 (hashing_word dump.hashing) (hashing_visible dump.hashing),
        (
          visible_by (codes "nodes") refl,
          refl,
          list_told 5 node_json node_value dump.nodes
              (All-weaker (λ node. HasNodeNumbers node × HasNodeNames node) (λ node. Tells 5 (node_json node) (node_value node))
              (λ node is. node_told node is.0 is.1) dump.nodes (both_all HasNodeNumbers HasNodeNames dump.nodes numbers.nodes has.nodes)),
          (
            visible_by (codes "points") refl,
            refl,
            number_told 6 dump.points (omega (arith, points)),
            (
              visible_by (codes "rows") refl,
              refl,
              list_told 5 row_json row_value dump.rows
                  (All-weaker (λ row. HasRowNumbers row × IsSilo row.silo) (λ row. Tells 5 (row_json row) (row_value row))
                  (λ row is. row_told row is.0 is.1) dump.rows
                  (both_all HasRowNumbers (λ row. IsSilo row.silo) dump.rows numbers.rows has.rows)),
              tt,
            ),
          ),
        ),
      ),
    )
