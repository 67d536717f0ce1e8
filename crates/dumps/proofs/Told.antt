-- The parts of a dump, told by the items and the members of their text.
use Rattle.std.proofs.Common.{◌≡◌, ℕ, List, ◌∷◌, Option, Some, ap, ◌∙◌, arith}
use Rattle.std.specs.Prelude.{codes}
use Rattle.json.specs.Token.{Token}
use Rattle.json.specs.Json.{after_end_array}
use Rattle.serde_json.specs.Data.{array, object, no_items, item, Members}
use Rattle.serde_json.specs.Events.{members_len}
use Rattle.silo_address.specs.Chain.{◌>>=◌}
use Rattle.silo_address.specs.Silo.{Silo}
use Rattle.silo_address.specs.Grain.{Grain}
use Rattle.silo_address.specs.declared.ActivationId.{ActivationId}
use Rattle.silo_address.specs.declared.Entry.{Entry}
use Rattle.ring_range.specs.Range.{Range}
use Rattle.hash_ring.specs.declared.hashing.Hashing.{Hashing}
use Rattle.hash_ring.specs.declared.point.Point.{Point}
use Rattle.dump_rules.specs.Dump.{DumpPhase, DumpState, DumpHeld, DumpPiece, DumpNode, DumpRow}
use Rattle.dump_rules.specs.DumpIn.{hashing_in, phase_in, state_in, entry_in, point_in, held_in, piece_in, node_in, row_in, dump_in}
use Rattle.dump_rules.specs.Values.{number_in, silo_in, grain_in, activation_in, range_in, from_in, list_in, member_in}
use Rattle.dumps.specs.Straight.{Tells}
use Rattle.dumps.proofs.Along.{array_at, item_at, no_items_at}

-- ---- several readings, one after another
module _ {A B C D E X : Type 0} (a : A) (b : B) (c : C) (d : D) (e : E) where
  two : (x : Option A) (y : Option B) (make : A → B → X) → x ≡ Some a → y ≡ Some b
      → (x >>= λ p. y >>= λ q. Some (make p q)) ≡ Some (make a b)
  two x y make one other = ap (λ o. o >>= λ p. y >>= λ q. Some (make p q)) one ∙ ap (λ o. o >>= λ q. Some (make a q)) other

  three : (x : Option A) (y : Option B) (z : Option C) (make : A → B → C → X) → x ≡ Some a → y ≡ Some b → z ≡ Some c
      → (x >>= λ p. y >>= λ q. z >>= λ r. Some (make p q r)) ≡ Some (make a b c)
  three x y z make one other third =
      ap (λ o. o >>= λ p. y >>= λ q. z >>= λ r. Some (make p q r)) one ∙ ap (λ o. o >>= λ q. z >>= λ r. Some (make a q r)) other
      ∙ ap (λ o. o >>= λ r. Some (make a b r)) third

  four : (x : Option A) (y : Option B) (z : Option C) (u : Option D) (make : A → B → C → D → X) → x ≡ Some a → y ≡ Some b → z ≡ Some c
      → u ≡ Some d
      → (x >>= λ p. y >>= λ q. z >>= λ r. u >>= λ s. Some (make p q r s)) ≡ Some (make a b c d)
  four x y z u make one other third fourth =
      ap (λ o. o >>= λ p. y >>= λ q. z >>= λ r. u >>= λ s. Some (make p q r s)) one
      ∙ ap (λ o. o >>= λ q. z >>= λ r. u >>= λ s. Some (make a q r s)) other
      ∙ ap (λ o. o >>= λ r. u >>= λ s. Some (make a b r s)) third ∙ ap (λ o. o >>= λ s. Some (make a b c s)) fourth

  five : (x : Option A) (y : Option B) (z : Option C) (u : Option D) (v : Option E) (make : A → B → C → D → E → X) → x ≡ Some a → y ≡ Some b
      → z ≡ Some c → u ≡ Some d → v ≡ Some e
      → (x >>= λ p. y >>= λ q. z >>= λ r. u >>= λ s. v >>= λ t. Some (make p q r s t)) ≡ Some (make a b c d e)
  five x y z u v make one other third fourth fifth =
      ap (λ o. o >>= λ p. y >>= λ q. z >>= λ r. u >>= λ s. v >>= λ t. Some (make p q r s t)) one
      ∙ ap (λ o. o >>= λ q. z >>= λ r. u >>= λ s. v >>= λ t. Some (make a q r s t)) other
      ∙ ap (λ o. o >>= λ r. u >>= λ s. v >>= λ t. Some (make a b r s t)) third
      ∙ ap (λ o. o >>= λ s. v >>= λ t. Some (make a b c s t)) fourth ∙ ap (λ o. o >>= λ t. Some (make a b c d t)) fifth

-- ---- lists of two and of three
pub entry_told : (t0 t1 t2 t3 end : List Token) (grain : Grain) (activation : ActivationId) → t0 ≡ Token.begin_array ∷ t1
    → Tells grain_in 0 t1 grain t2 → Tells activation_in 0 t2 activation t3 → after_end_array t3 ≡ Some end
    → Tells entry_in 1 t0 (record { grain = grain; activation = activation }) end
entry_told t0 t1 t2 t3 end grain activation opened one other over = (
  array (item one.0 (item other.0 no_items)),
  array_at 0 t0 t1 _ end opened
      (item_at 0 0 t1 t2 one.0 _ end (omega arith) one.1
      (item_at 0 0 t2 t3 other.0 _ end (omega arith) other.1 (no_items_at 0 t3 end over))),
  two grain activation grain grain grain (grain_in one.0) (activation_in other.0)
      (λ grain activation. record { grain = grain; activation = activation }) one.2 other.2,
)

pub point_told : (t0 t1 t2 t3 t4 end : List Token) (place : ℕ) (silo : Silo) (index : ℕ) → t0 ≡ Token.begin_array ∷ t1
    → Tells number_in 0 t1 place t2 → Tells silo_in 0 t2 silo t3 → Tells number_in 0 t3 index t4 → after_end_array t4 ≡ Some end
    → Tells point_in 1 t0 (record { place = place; silo = silo; index = index }) end
point_told t0 t1 t2 t3 t4 end place silo index opened one other third over = (
  array (item one.0 (item other.0 (item third.0 no_items))),
  array_at 0 t0 t1 _ end opened
      (item_at 0 0 t1 t2 one.0 _ end (omega arith) one.1
      (item_at 0 0 t2 t3 other.0 _ end (omega arith) other.1
      (item_at 0 0 t3 t4 third.0 _ end (omega arith) third.1 (no_items_at 0 t4 end over)))),
  three place silo index index index (number_in one.0) (silo_in other.0) (number_in third.0)
      (λ place silo index. record { place = place; silo = silo; index = index }) one.2 other.2 third.2,
)

-- ---- objects, by what their members tell
module _ (found : Members) where
  pub held_told : (activation : ActivationId) (grain : Grain) (phase : DumpPhase) → members_len found ≡ 3
      → member_in activation_in (codes "activation") found ≡ Some activation
      → member_in grain_in (codes "grain") found ≡ Some grain
      → member_in phase_in (codes "phase") found ≡ Some phase
      → held_in (object found) ≡ Some (record { activation = activation; grain = grain; phase = phase })
  held_told activation grain phase many one other third =
      rw many (three activation grain phase phase phase (member_in activation_in (codes "activation") found)
      (member_in grain_in (codes "grain") found) (member_in phase_in (codes "phase") found)
      (λ activation grain phase. record { activation = activation; grain = grain; phase = phase }) one other third)

  pub piece_told : (entries : List Entry) (from : Option Silo) (range : Range) (state : DumpState) → members_len found ≡ 4
      → member_in (list_in entry_in) (codes "entries") found ≡ Some entries
      → member_in from_in (codes "from") found ≡ Some from
      → member_in range_in (codes "range") found ≡ Some range
      → member_in state_in (codes "state") found ≡ Some state
      → piece_in (object found) ≡ Some (record { entries = entries; from = from; range = range; state = state })
  piece_told entries from range state many one other third fourth =
      rw many (four entries from range state state (member_in (list_in entry_in) (codes "entries") found)
      (member_in from_in (codes "from") found) (member_in range_in (codes "range") found) (member_in state_in (codes "state") found)
      (λ entries from range state. record { entries = entries; from = from; range = range; state = state }) one other third fourth)

  pub node_told : (held : List DumpHeld) (pieces : List DumpPiece) (ring : List Point) (seen : ℕ) (silo : Silo) → members_len found ≡ 5
      → member_in (list_in held_in) (codes "held") found ≡ Some held
      → member_in (list_in piece_in) (codes "pieces") found ≡ Some pieces
      → member_in (list_in point_in) (codes "ring") found ≡ Some ring
      → member_in number_in (codes "seen") found ≡ Some seen
      → member_in silo_in (codes "silo") found ≡ Some silo
      → node_in (object found) ≡ Some (record { held = held; pieces = pieces; ring = ring; seen = seen; silo = silo })
  node_told held pieces ring seen silo many one other third fourth fifth =
      rw many (five held pieces ring seen silo (member_in (list_in held_in) (codes "held") found)
      (member_in (list_in piece_in) (codes "pieces") found) (member_in (list_in point_in) (codes "ring") found)
      (member_in number_in (codes "seen") found) (member_in silo_in (codes "silo") found)
      (λ held pieces ring seen silo. record { held = held; pieces = pieces; ring = ring; seen = seen; silo = silo }) one other third fourth
      fifth)

  pub row_told : (dead : ℕ) (joined : ℕ) (left : ℕ) (places : List ℕ) (silo : Silo) → members_len found ≡ 5
      → member_in number_in (codes "dead") found ≡ Some dead
      → member_in number_in (codes "joined") found ≡ Some joined
      → member_in number_in (codes "left") found ≡ Some left
      → member_in (list_in number_in) (codes "places") found ≡ Some places
      → member_in silo_in (codes "silo") found ≡ Some silo
      → row_in (object found) ≡ Some (record { dead = dead; joined = joined; left = left; places = places; silo = silo })
  row_told dead joined left places silo many one other third fourth fifth =
      rw many (five dead joined left places silo (member_in number_in (codes "dead") found) (member_in number_in (codes "joined") found)
      (member_in number_in (codes "left") found) (member_in (list_in number_in) (codes "places") found)
      (member_in silo_in (codes "silo") found)
      (λ dead joined left places silo. record { dead = dead; joined = joined; left = left; places = places; silo = silo }) one other third
      fourth fifth)

  pub whole_told : (current : ℕ) (hashing : Hashing) (nodes : List DumpNode) (points : ℕ) (rows : List DumpRow) → members_len found ≡ 5
      → member_in number_in (codes "current") found ≡ Some current
      → member_in hashing_in (codes "hashing") found ≡ Some hashing
      → member_in (list_in node_in) (codes "nodes") found ≡ Some nodes
      → member_in number_in (codes "points") found ≡ Some points
      → member_in (list_in row_in) (codes "rows") found ≡ Some rows
      → dump_in (object found) ≡ Some (record { current = current; hashing = hashing; nodes = nodes; points = points; rows = rows })
  unfolding dump_in
  whole_told current hashing nodes points rows many one other third fourth fifth =
      rw many (five current hashing nodes points rows (member_in number_in (codes "current") found)
      (member_in hashing_in (codes "hashing") found) (member_in (list_in node_in) (codes "nodes") found)
      (member_in number_in (codes "points") found) (member_in (list_in row_in) (codes "rows") found)
      (λ current hashing nodes points rows. record { current = current; hashing = hashing; nodes = nodes; points = points; rows = rows })
      one other third fourth fifth)
