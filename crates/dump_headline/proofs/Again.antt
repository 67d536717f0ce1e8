-- The value of a dump is read as that dump.
use Rattle.std.proofs.Common.{◌≡◌, ℕ, ◌<◌, ◌^◌, List, [], ◌∷◌, refl, ap, ◌∙◌}
use Rattle.std.specs.Prelude.{All, Option, Some, None, IfSome, Ok, option_map, option_and_then}
use Rattle.std.specs.Result.{result_ok}
use Rattle.std.proofs.lemmas.List.Elements.{All-head, All-tail, All-weaker}
use Rattle.serde_json.specs.Data.{Data, string}
use Rattle.silo_address.specs.Chain.{◌>>=◌}
use Rattle.silo_address.specs.Silo.{Silo, IsSilo}
use Rattle.silo_address.specs.SiloText.{silo_text}
use Rattle.silo_address.specs.ReadSilo.{silo_words, read_silo}
use Rattle.silo_address.specs.Grain.{grain_text}
use Rattle.silo_address.specs.declared.ActivationId.{ActivationId}
use Rattle.silo_address.specs.declared.Entry.{Entry}
use Rattle.silo_address.specs.ActivationText.{activation_text}
use Rattle.silo_address.proofs.ActivationLaws.{activation_only}
use Rattle.silo_address.proofs.GrainCases.{grain_only}
use Rattle.silo_address.proofs.SiloCases.{silo_only}
use Rattle.ring_range.specs.Range.{IsRange}
use Rattle.ring_range.specs.Text.{range_text}
use Rattle.ring_range.proofs.ReadAgain.{only}
use Rattle.hash_ring.specs.declared.hashing.Hashing.{Hashing}
use Rattle.hash_ring.specs.declared.hashing.Hashing.TheVariants.{Sha256, Stated}
use Rattle.hash_ring.specs.declared.point.Point.{Point}
use Rattle.dump_rules.specs.Dump.{DumpPhase, Asking, Firm, Closing, DumpState, Settled, Awaiting, Recovering, DumpHeld, DumpPiece, DumpNode, DumpRow, DumpValue, hashing_word, dump_phase_word, dump_state_word, from_text}
use Rattle.dump_rules.specs.DumpIn.{hashing_in, phase_in, state_in, entry_in, point_in, held_in, piece_in, node_in, row_in, dump_in}
use Rattle.dump_rules.specs.Values.{number_in, silo_in, grain_in, activation_in, range_in, silo_or_none, from_in, items_in, list_in}
use Rattle.dump_rules.specs.RightShape.{HasNodeNumbers, HasNumbers}
use Rattle.dump_headline.specs.Named.{IsNamedFor, HasPieceNames, HasNodeNames, HasNames}
use Rattle.dump_headline.proofs.Texts.{both_all}
use Rattle.dump_headline.proofs.Values.{number_value, items_of, list_value, entry_value, point_value, held_value, piece_value, node_value, row_value, dump_value}

-- ---- several readings, one after another
module _ {A B C D E X : Type 0} (a : A) (b : B) (c : C) (d : D) (e : E) where
  two : (x : Option A) (y : Option B) (make : A → B → X) → x ≡ Some a → y ≡ Some b
      → (x >>= λ p. y >>= λ q. Some (make p q)) ≡ Some (make a b)
  two x y make one other = ap (λ o. o >>= λ p. y >>= λ q. Some (make p q)) one ∙ ap (λ o. o >>= λ q. Some (make a q)) other

  three : (x : Option A) (y : Option B) (z : Option C) (make : A → B → C → X) → x ≡ Some a → y ≡ Some b → z ≡ Some c
      → (x >>= λ p. y >>= λ q. z >>= λ r. Some (make p q r)) ≡ Some (make a b c)
  three x y z make one other third =
      ap (λ o. o >>= λ p. y >>= λ q. z >>= λ r. Some (make p q r)) one ∙ ap (λ o. o >>= λ q. z >>= λ r. Some (make a q r)) other
      ∙ ap (λ o. o >>= λ r. Some (make a b r)) third

  four : (x : Option A) (y : Option B) (z : Option C) (u : Option D) (make : A → B → C → D → X) → x ≡ Some a → y ≡ Some b → z ≡ Some c
      → u ≡ Some d
      → (x >>= λ p. y >>= λ q. z >>= λ r. u >>= λ s. Some (make p q r s)) ≡ Some (make a b c d)
  four x y z u make one other third fourth =
      ap (λ o. o >>= λ p. y >>= λ q. z >>= λ r. u >>= λ s. Some (make p q r s)) one
      ∙ ap (λ o. o >>= λ q. z >>= λ r. u >>= λ s. Some (make a q r s)) other
      ∙ ap (λ o. o >>= λ r. u >>= λ s. Some (make a b r s)) third ∙ ap (λ o. o >>= λ s. Some (make a b c s)) fourth

  five : (x : Option A) (y : Option B) (z : Option C) (u : Option D) (v : Option E) (make : A → B → C → D → E → X) → x ≡ Some a → y ≡ Some b
      → z ≡ Some c → u ≡ Some d → v ≡ Some e
      → (x >>= λ p. y >>= λ q. z >>= λ r. u >>= λ s. v >>= λ t. Some (make p q r s t)) ≡ Some (make a b c d e)
  five x y z u v make one other third fourth fifth =
      ap (λ o. o >>= λ p. y >>= λ q. z >>= λ r. u >>= λ s. v >>= λ t. Some (make p q r s t)) one
      ∙ ap (λ o. o >>= λ q. z >>= λ r. u >>= λ s. v >>= λ t. Some (make a q r s t)) other
      ∙ ap (λ o. o >>= λ r. u >>= λ s. v >>= λ t. Some (make a b r s t)) third
      ∙ ap (λ o. o >>= λ s. v >>= λ t. Some (make a b c s t)) fourth ∙ ap (λ o. o >>= λ t. Some (make a b c d t)) fifth

-- ---- lists
module _ {X : Type 0} (reading : Data → Option X) (value : X → Data) where
  abbrev Again : X → Type 0
  Again x = reading (value x) ≡ Some x

  items_again : (xs : List X) → All Again xs → items_in reading (items_of value xs) ≡ Some xs
  items_again [] all = refl
  items_again (x ∷ xs) all =
      ap (λ o. option_and_then (λ y. option_map (λ ys. y ∷ ys) (items_in reading (items_of value xs))) o) (All-head Again x xs all)
      ∙ ap (option_map (λ ys. x ∷ ys)) (items_again xs (All-tail Again x xs all))

  list_again : (xs : List X) → All Again xs → list_in reading (list_value value xs) ≡ Some xs
  list_again xs all = items_again xs all

-- ---- names
silo_again : (silo : Silo) → IsSilo silo → silo_in (string (silo_text silo)) ≡ Some silo
silo_again silo is = ap result_ok (silo_only (silo_text silo) silo is refl)

activation_again : (activation : ActivationId) → IsSilo activation.silo → activation.count < 2 ^ 64
    → activation_in (string (activation_text activation)) ≡ Some activation
activation_again activation is fits = ap result_ok (activation_only (activation_text activation) activation is fits refl)

some_silo : (text : List ℕ) (silo : Silo) → read_silo text ≡ Ok silo → silo_or_none text ≡ Some (Some silo)
unfolding read_silo silo_words
some_silo [] silo is = absurd (cc (is))
some_silo (byte ∷ bytes) silo is = ap (λ r. option_map Some (result_ok r)) is

from_again : (from : Option Silo) → IfSome from IsSilo → from_in (string (from_text from)) ≡ Some from
from_again None is = refl
from_again (Some silo) is = some_silo (silo_text silo) silo (silo_only (silo_text silo) silo is refl)

-- ---- words
hashing_again : (hashing : Hashing) → hashing_in (string (hashing_word hashing)) ≡ Some hashing
hashing_again Sha256 = refl
hashing_again Stated = refl

phase_again : (phase : DumpPhase) → phase_in (string (dump_phase_word phase)) ≡ Some phase
phase_again Asking = refl
phase_again Firm = refl
phase_again Closing = refl

state_again : (state : DumpState) → state_in (string (dump_state_word state)) ≡ Some state
state_again Settled = refl
state_again Awaiting = refl
state_again Recovering = refl

-- ---- the parts of a dump
entry_again : (entry : Entry) → IsNamedFor entry.grain entry.activation → entry_in (entry_value entry) ≡ Some entry
entry_again entry is =
    two entry.grain entry.activation entry.grain entry.grain entry.grain (grain_in (string (grain_text entry.grain)))
    (activation_in (string (activation_text entry.activation)))
    (λ grain activation. record { grain = grain; activation = activation })
    (ap result_ok (grain_only (grain_text entry.grain) entry.grain is.0 refl)) (activation_again entry.activation is.1.silo is.1.count)

point_again : (point : Point) → IsSilo point.silo → point_in (point_value point) ≡ Some point
point_again point is =
    ap (λ o. o >>= λ silo. Some (record { place = point.place; silo = silo; index = point.index })) (silo_again point.silo is)

held_again : (held : DumpHeld) → IsNamedFor held.grain held.activation → held_in (held_value held) ≡ Some held
held_again held is =
    three held.activation held.grain held.phase held.phase held.phase (activation_in (string (activation_text held.activation)))
    (grain_in (string (grain_text held.grain))) (phase_in (string (dump_phase_word held.phase)))
    (λ activation grain phase. record { activation = activation; grain = grain; phase = phase })
    (activation_again held.activation is.1.silo is.1.count) (ap result_ok (grain_only (grain_text held.grain) held.grain is.0 refl))
    (phase_again held.phase)

piece_again : (piece : DumpPiece) → IsRange piece.range → HasPieceNames piece → piece_in (piece_value piece) ≡ Some piece
piece_again piece range has =
    four piece.entries piece.from piece.range piece.state piece.state
    (list_in entry_in (list_value entry_value piece.entries)) (from_in (string (from_text piece.from)))
    (range_in (string (range_text piece.range))) (state_in (string (dump_state_word piece.state)))
    (λ entries from range state. record { entries = entries; from = from; range = range; state = state })
    (list_again entry_in entry_value piece.entries (All-weaker (λ entry. IsNamedFor entry.grain entry.activation)
    (λ entry. entry_in (entry_value entry) ≡ Some entry) entry_again piece.entries has.entries))
    (from_again piece.from has.from) (ap result_ok (only (range_text piece.range) piece.range range refl)) (state_again piece.state)

node_again : (node : DumpNode) → HasNodeNumbers node → HasNodeNames node → node_in (node_value node) ≡ Some node
node_again node numbers has =
    five node.held node.pieces node.ring node.seen node.silo
    (list_in held_in (list_value held_value node.held)) (list_in piece_in (list_value piece_value node.pieces))
    (list_in point_in (list_value point_value node.ring)) (number_in (number_value node.seen)) (silo_in (string (silo_text node.silo)))
    (λ held pieces ring seen silo. record { held = held; pieces = pieces; ring = ring; seen = seen; silo = silo })
    (list_again held_in held_value node.held (All-weaker (λ held. IsNamedFor held.grain held.activation)
    (λ held. held_in (held_value held) ≡ Some held) held_again node.held has.held))
    (list_again piece_in piece_value node.pieces
    (All-weaker (λ piece. IsRange piece.range × HasPieceNames piece) (λ piece. piece_in (piece_value piece) ≡ Some piece)
    (λ piece is. piece_again piece is.0 is.1) node.pieces
    (both_all (λ piece. IsRange piece.range) HasPieceNames node.pieces numbers.pieces has.pieces)))
    (list_again point_in point_value node.ring (All-weaker (λ point. IsSilo point.silo) (λ point. point_in (point_value point) ≡ Some point)
    point_again node.ring has.ring))
    refl (silo_again node.silo has.silo)

row_again : (row : DumpRow) → IsSilo row.silo → row_in (row_value row) ≡ Some row
row_again row is =
    five row.dead row.joined row.left row.places row.silo
    (number_in (number_value row.dead)) (number_in (number_value row.joined)) (number_in (number_value row.left))
    (list_in number_in (list_value number_value row.places)) (silo_in (string (silo_text row.silo)))
    (λ dead joined left places silo. record { dead = dead; joined = joined; left = left; places = places; silo = silo })
    refl refl refl (list_again number_in number_value row.places (λ k d below. refl)) (silo_again row.silo is)

pub dump_again : (dump : DumpValue) → HasNumbers dump → HasNames dump → dump_in (dump_value dump) ≡ Some dump
unfolding dump_in
dump_again dump numbers has =
    five dump.current dump.hashing dump.nodes dump.points dump.rows
    (number_in (number_value dump.current)) (hashing_in (string (hashing_word dump.hashing)))
    (list_in node_in (list_value node_value dump.nodes)) (number_in (number_value dump.points))
    (list_in row_in (list_value row_value dump.rows))
    (λ current hashing nodes points rows. record { current = current; hashing = hashing; nodes = nodes; points = points; rows = rows })
    refl (hashing_again dump.hashing)
    (list_again node_in node_value dump.nodes
    (All-weaker (λ node. HasNodeNumbers node × HasNodeNames node) (λ node. node_in (node_value node) ≡ Some node)
    (λ node is. node_again node is.0 is.1) dump.nodes (both_all HasNodeNumbers HasNodeNames dump.nodes numbers.nodes has.nodes)))
    refl (list_again row_in row_value dump.rows (All-weaker (λ row. IsSilo row.silo) (λ row. row_in (row_value row) ≡ Some row) row_again
    dump.rows has.rows))
