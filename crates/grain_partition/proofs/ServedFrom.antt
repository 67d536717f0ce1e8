-- A request that is served from a piece.
use Rattle.std.proofs.Common.{◌≡◌, refl, sym, ap, ◌∙◌, subst, ℕ, List, find}
use Rattle.std.specs.Prelude.{true, Option, Some, None, Result, Ok, Err, IfOk, OnOk, OnErr}
use Rattle.std.specs.Option.{option_map}
use Rattle.std.specs.Map.{lookup, set_value}
use Rattle.std.specs.BTreeMap.{is_at, insert_entry}
use Rattle.std.specs.Ordering.{nat_cmp}
use Rattle.std.proofs.lemmas.Cmp.{nat_cmp_total}
use Rattle.std.proofs.lemmas.Option.{same_Some}
use Rattle.directory_rules.proofs.Owned.{serving_has}
use Rattle.silo_address.specs.Silo.{silo_cmp}
use Rattle.membership_view.proofs.Found.{find_found}
use Rattle.ring_range.specs.Range.{holds}
use Rattle.directory_rules.specs.declared.Act.{Act}
use Rattle.directory_rules.specs.declared.Act.TheVariants.{Register, Deregister, Find}
use Rattle.directory_rules.specs.declared.Request.{Request}
use Rattle.directory_rules.specs.declared.Reply.{Reply}
use Rattle.directory_rules.specs.State.{Piece, Holding}
use Rattle.directory_rules.specs.Answer.{Answered, answered, answered_from, after_numbered, is_numbered, piece_with, served_by, serving_piece, turned, with_piece}
use Rattle.grain_partition.specs.Holdings.{ArePieces}
use Rattle.grain_partition.specs.Served.{IsTurnOf}
use Rattle.grain_partition.proofs.OnePiece.{at_lookup}
use Rattle.grain_partition.proofs.Kept.{pieces-set}

-- the piece that has a hash stands under its start
pub found_with : (hash : ℕ) (pieces : List (ℕ × Piece)) → ArePieces pieces → (piece : Piece) → piece_with hash pieces ≡ Some piece
    → lookup (is_at (nat_cmp piece.range.start)) pieces ≡ Some piece
found_with hash pieces are piece with = by (find (λ e. holds e.1.range hash) pieces) refl with
  where
    by : (o : Option (ℕ × Piece)) → find (λ e. holds e.1.range hash) pieces ≡ o → option_map (λ e. e.1) o ≡ Some piece
        → lookup (is_at (nat_cmp piece.range.start)) pieces ≡ Some piece
    by None is with = cc
    by (Some f) is with =
        let got = find_found nat_cmp_total (λ k p. holds p.range hash) pieces are.in_order f is in
        let same : f.1 ≡ piece = same_Some f.1 piece with in
        let under : f.1.range.start ≡ f.0 = at_lookup (λ e. e.1.range.start ≡ e.0) pieces are.under_start f.0 f.1 got.0 in
        ap (λ (p : Piece). lookup (is_at (nat_cmp p.range.start)) pieces) (sym same) ∙ ap (λ k. lookup (is_at (nat_cmp k)) pieces) under
        ∙ got.0 ∙ ap (λ p. Some p) same

pub serving_found : (holding : Holding) → ArePieces holding.pieces → (request : Request) (piece : Piece)
    → serving_piece holding request ≡ Ok piece
    → lookup (is_at (nat_cmp piece.range.start)) holding.pieces ≡ Some piece
serving_found holding are request piece serves = found_with request.hash holding.pieces are piece (serving_has holding request piece serves)

-- what comes of a Register or a Deregister that is served
served_numbered : (act : Act) → is_numbered act ≡ true → (piece : Piece) (holding : Holding) (request : Request)
    → served_by act piece holding request ≡ after_numbered (turned act piece.entries) piece holding request
served_numbered (Register entry previous) numbered piece holding request = refl
served_numbered (Deregister entry) numbered piece holding request = refl
served_numbered (Find grain) numbered piece holding request = cc

abbrev answer : Holding → Request → Reply → List (ℕ × Piece) → Answered
answer holding request reply pieces = record {
  reply = reply;
  holding = record holding { served = insert_entry silo_cmp holding.served request.sender request.number; pieces = pieces };
}

pub numbered_answer : (holding : Holding) → ArePieces holding.pieces → (request : Request) (piece : Piece)
    → serving_piece holding request ≡ Ok piece → is_numbered request.act ≡ true
    → (reply : Reply) (pieces : List (ℕ × Piece)) → IsTurnOf request.act piece.range.start holding.pieces pieces reply
    → answered holding request ≡ answer holding request reply pieces
numbered_answer holding are request piece serves numbered reply pieces turn =
    let same : turn.piece ≡ piece = same_Some turn.piece piece (sym turn.there ∙ serving_found holding are request piece serves) in
    ap (λ s. answered_from s holding request) serves ∙ served_numbered request.act numbered piece holding request
    ∙ (λ i. answer holding request (replied same i) (placed same i))
  where
    replied : turn.piece ≡ piece → (turned request.act piece.entries).reply ≡ reply
    replied same = ap (λ (p : Piece). (turned request.act p.entries).reply) (sym same) ∙ sym turn.reply_is

    placed : turn.piece ≡ piece → with_piece (record piece { entries = (turned request.act piece.entries).table }) holding.pieces ≡ pieces
    placed same =
        ap (λ (p : Piece). set_value (is_at (nat_cmp piece.range.start)) holding.pieces
        (record p { entries = (turned request.act p.entries).table })) (sym same) ∙ sym turn.table_is

abbrev replied : Reply → Holding → Answered
replied reply holding = record { reply = reply; holding = holding }

-- the same by what serving it answers
pub answer_after : {E : Type 0} (holding new : Holding) → ArePieces holding.pieces → (request : Request) (piece : Piece)
    → serving_piece holding request ≡ Ok piece
    → is_numbered request.act ≡ true → (start : ℕ) → start ≡ piece.range.start → (result : Result Reply E)
    → IfOk result (IsTurnOf request.act start holding.pieces new.pieces)
    → OnOk result (new ≡ record holding {
      served = insert_entry silo_cmp holding.served request.sender request.number;
      pieces = new.pieces;
    })
    → IfOk result (λ reply. answered holding request ≡ record { reply = reply; holding = new })
answer_after holding new are request piece serves numbered start at (Ok reply) turn noted =
    numbered_answer holding are request piece serves numbered reply new.pieces
    (subst (λ k. IsTurnOf request.act k holding.pieces new.pieces reply) at turn)
    ∙ ap (λ h. replied reply h) (sym noted)
answer_after holding new are request piece serves numbered start at (Err fault) turn noted = tt

-- the pieces after a turn, or out of memory
pub pieces_after_turn : {E : Type 0} (act : Act) (start : ℕ) (old new : List (ℕ × Piece)) → ArePieces old → (result : Result Reply E)
    → IfOk result (IsTurnOf act start old new) → OnErr result (new ≡ old) → ArePieces new
pieces_after_turn act start old new are (Ok reply) turn stay =
    subst (λ pieces. ArePieces pieces) (sym turn.table_is)
    (pieces-set start turn.piece (record turn.piece { entries = (turned act turn.piece.entries).table }) refl old are turn.there)
pieces_after_turn act start old new are (Err fault) turn stay = subst (λ pieces. ArePieces pieces) (sym stay) are
