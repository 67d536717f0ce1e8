-- The answer to a request: first whether it is served at all, then what the table does.
use Rattle.std.specs.Prelude.{ℕ, ◌==◌, ◌&&◌, nat_lt, not, Bool, true, false, if◌then◌else◌, List, Option, Some, None, Result, Ok, Err, find}
use Rattle.std.specs.Option.{option_map, unwrap_or}
use Rattle.std.specs.Ordering.{nat_cmp}
use Rattle.std.specs.Map.{lookup, set_value}
use Rattle.std.specs.BTreeMap.{is_at, insert_entry}
use Rattle.silo_address.specs.Silo.{Silo, silo_cmp}
use Rattle.silo_address.specs.declared.ActivationId.{ActivationId}
use Rattle.silo_address.specs.declared.Entry.{Entry}
use Rattle.silo_address.specs.Activation.{activation_eq}
use Rattle.ring_range.specs.Range.{holds}
use Rattle.directory_rules.specs.declared.act.Act.{Act}
use Rattle.directory_rules.specs.declared.act.Act.TheVariants.{Register, Deregister, Find}
use Rattle.directory_rules.specs.declared.act.Request.{Request}
use Rattle.directory_rules.specs.declared.reply.Reply.{Reply}
use Rattle.directory_rules.specs.declared.reply.Reply.TheVariants.{Registered, Taken, Removed, Absent, Found, Nothing, Retry}
use Rattle.directory_rules.specs.declared.reply.Why.{Why}
use Rattle.directory_rules.specs.declared.reply.Why.TheVariants.{View, Unsettled, OldNumber, NotOwner}
use Rattle.directory_rules.specs.declared.piece_state.PieceState.{PieceState}
use Rattle.directory_rules.specs.declared.piece_state.PieceState.TheVariants.{Settled, Awaiting, Recovering}
use Rattle.directory_rules.specs.State.{Table, Piece, Holding}
use Rattle.directory_rules.specs.Table.{entry_at, with_entry, without_grain}

-- the stated number of a reason to ask again
abbrev pub why_number : Why → ℕ
why_number (View seen) = 601
why_number Unsettled = 602
why_number (OldNumber last) = 603
why_number NotOwner = 604

-- the piece that has the hash
abbrev pub piece_with : ℕ → List (ℕ × Piece) → Option Piece
piece_with hash pieces = option_map (λ e. e.1) (find (λ e. holds e.1.range hash) pieces)

-- the last number that the silo was served at this version, and 0 before the first
abbrev pub last_served : Silo → List (Silo × ℕ) → ℕ
last_served silo served = unwrap_or (lookup (is_at (silo_cmp silo)) served) 0

-- whether requests of this kind are served only by rising numbers
abbrev pub is_numbered : Act → Bool
is_numbered (Register entry previous) = true
is_numbered (Deregister entry) = true
is_numbered (Find grain) = false

-- the piece, unless the request's number isn't above the last one served
abbrev pub serving_by_number : Piece → Holding → Request → Result Piece Why
serving_by_number piece holding request =
    if is_numbered request.act && not (nat_lt (last_served request.sender holding.served) request.number)
    then Err (OldNumber (last_served request.sender holding.served)) else Ok piece

-- by the piece's state: only a settled one serves
abbrev pub serving_by_state : PieceState → Piece → Holding → Request → Result Piece Why
serving_by_state Settled piece holding request = serving_by_number piece holding request
serving_by_state (Awaiting from) piece holding request = Err Unsettled
serving_by_state Recovering piece holding request = Err Unsettled

-- by the piece that has the hash, if there is one
abbrev pub serving_by_piece : Option Piece → Holding → Request → Result Piece Why
serving_by_piece None holding request = Err NotOwner
serving_by_piece (Some piece) holding request = serving_by_state piece.state piece holding request

-- the piece from which a request is served, or why it isn't, by the first reason that holds: another version was seen,
-- the hash is in no piece, the piece isn't settled, the number isn't above the last one served
abbrev pub serving_piece : Holding → Request → Result Piece Why
serving_piece holding request =
    if request.version == holding.seen
    then serving_by_piece (piece_with request.hash holding.pieces) holding request
    else Err (View holding.seen)

-- what a table answers, and what it then has
pub record Turned : Type 0 where
  pub reply : Reply
  pub table : Table

-- whether the entry there is that of the previous activation, in whose place another may be entered
abbrev pub is_previous : Option ActivationId → Entry → Bool
is_previous None there = false
is_previous (Some previous) there = activation_eq there.activation previous

-- an entry is put in where the grain has none or that of the previous activation; another entry stays
abbrev pub registered_over : Option Entry → Entry → Option ActivationId → Table → Turned
registered_over None entry previous table = record { reply = Registered entry; table = with_entry table entry }
registered_over (Some there) entry previous table =
    if activation_eq there.activation entry.activation then record { reply = Registered entry; table = table }
    else (if is_previous previous there then record { reply = Registered entry; table = with_entry table entry }
    else record { reply = Taken there; table = table })

-- just the named activation is taken out
abbrev pub deregistered_from : Option Entry → Entry → Table → Turned
deregistered_from None entry table = record { reply = Absent; table = table }
deregistered_from (Some there) entry table =
    if activation_eq there.activation entry.activation then record { reply = Removed; table = without_grain entry.grain table }
    else record { reply = Absent; table = table }

-- the reply to a Find, by the grain's entry
abbrev pub found_reply : Option Entry → Reply
found_reply None = Nothing
found_reply (Some there) = Found there

-- the table's turn at a request that is served
abbrev pub turned : Act → Table → Turned
turned (Register entry previous) table = registered_over (entry_at entry.grain table) entry previous table
turned (Deregister entry) table = deregistered_from (entry_at entry.grain table) entry table
turned (Find grain) table = record { reply = found_reply (entry_at grain table); table = table }

-- the pieces, with this piece in the place of the one that begins where it does
abbrev pub with_piece : Piece → List (ℕ × Piece) → List (ℕ × Piece)
with_piece piece pieces = set_value (is_at (nat_cmp piece.range.start)) pieces piece

-- the reply, and what the silo then holds
pub record Answered : Type 0 where
  pub reply : Reply
  pub holding : Holding

-- the sender's number is kept as the last one served, and the piece has its new table
abbrev pub after_numbered : Turned → Piece → Holding → Request → Answered
after_numbered turn piece holding request = record {
  reply = turn.reply;
  holding = record holding {
    served = insert_entry silo_cmp holding.served request.sender request.number;
    pieces = with_piece (record piece { entries = turn.table }) holding.pieces;
  };
}

-- what comes of a request that is served from a piece, by its act
abbrev pub served_by : Act → Piece → Holding → Request → Answered
served_by (Register entry previous) piece holding request = after_numbered (turned (Register entry previous) piece.entries) piece holding request
served_by (Deregister entry) piece holding request = after_numbered (turned (Deregister entry) piece.entries) piece holding request
served_by (Find grain) piece holding request = record { reply = found_reply (entry_at grain piece.entries); holding = holding }

-- served from the piece, or told why it isn't
abbrev pub answered_from : Result Piece Why → Holding → Request → Answered
answered_from (Ok piece) holding request = served_by request.act piece holding request
answered_from (Err why) holding request = record { reply = Retry why; holding = holding }

-- the answer to a request
abbrev pub answered : Holding → Request → Answered
answered holding request = answered_from (serving_piece holding request) holding request
