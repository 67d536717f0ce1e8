-- When a request is served: the version was seen, a settled piece has the hash, and the number is above the last one served.
use Rattle.std.proofs.Common.{◌≡◌, refl, sym, ap, subst, ◌∙◌, ℕ, List, [], ◌∷◌}
use Rattle.std.specs.Prelude.{Bool, true, false, cond, not, nat_lt, ◌==◌, ◌&&◌, find, Option, Some, None, Result, Ok, Err}
use Rattle.std.specs.Option.{option_map}
use Rattle.std.proofs.lemmas.Bool.{eqb-true}
use Rattle.ring_range.specs.Range.{holds}
use Rattle.directory_rules.specs.declared.act.Request.{Request}
use Rattle.directory_rules.specs.declared.piece_state.PieceState.{PieceState}
use Rattle.directory_rules.specs.declared.piece_state.PieceState.TheVariants.{Settled, Awaiting, Recovering}
use Rattle.directory_rules.specs.declared.reply.Why.{Why}
use Rattle.directory_rules.specs.declared.reply.Why.TheVariants.{View, OldNumber}
use Rattle.directory_rules.specs.State.{Piece, Holding}
use Rattle.directory_rules.specs.Answer.{piece_with, is_numbered, last_served, serving_by_state, serving_by_piece, serving_piece}
use Rattle.directory_rules.proofs.Cases.{on_bool}

-- the piece serves the request
pub record Serves (holding : Holding) (request : Request) (piece : Piece) : Type 0 where
  pub version : request.version ≡ holding.seen
  pub found : piece_with request.hash holding.pieces ≡ Some piece
  pub settled : piece.state ≡ Settled
  pub newer : (is_numbered request.act && not (nat_lt (last_served request.sender holding.served) request.number)) ≡ false

-- by number, and by state
by_number : (b : Bool) (why : Why) (piece there : Piece) → ◌≡◌ {A = Result Piece Why} (cond b (Err why) (Ok there)) (Ok piece)
    → (b ≡ false) × (there ≡ piece)
by_number true why piece there is = absurd (cc (is))
by_number false why piece there is = (refl, cc (is))

by_state : (its : PieceState) (piece there : Piece) (holding : Holding) (request : Request)
    → serving_by_state its there holding request ≡ Ok piece
    → (its ≡ Settled) × ((is_numbered request.act && not (nat_lt (last_served request.sender holding.served) request.number)) ≡ false) ×
    (there ≡ piece)
by_state Settled piece there holding request is =
    let so = by_number (is_numbered request.act && not (nat_lt (last_served request.sender holding.served) request.number)) (OldNumber (last_served request.sender holding.served)) piece there is in
    (refl, so.0, so.1)
by_state (Awaiting from) piece there holding request is = absurd (cc (is))
by_state Recovering piece there holding request is = absurd (cc (is))

by_piece : (found : Option Piece) (piece : Piece) (holding : Holding) (request : Request) → request.version ≡ holding.seen
    → piece_with request.hash holding.pieces ≡ found → serving_by_piece found holding request ≡ Ok piece
    → Serves holding request piece
by_piece None piece holding request version there is = absurd (cc (is))
by_piece (Some it) piece holding request version there is =
    let so = by_state it.state piece it holding request is in
    record { version = version; found = there ∙ ap Some so.2; settled = ap (λ (p : Piece). p.state) (sym so.2) ∙ so.0; newer = so.1 }

pub serves : (holding : Holding) (request : Request) (piece : Piece) → serving_piece holding request ≡ Ok piece
    → Serves holding request piece
serves holding request piece is =
    on_bool (λ b. (request.version == holding.seen) ≡ b
    → cond b (serving_by_piece (piece_with request.hash holding.pieces) holding request) (Err (View holding.seen)) ≡ Ok piece
    → Serves holding request piece)
    (request.version == holding.seen)
    (λ t at so. by_piece (piece_with request.hash holding.pieces) piece holding request (eqb-true request.version holding.seen at) refl so)
    (λ f at so. absurd (cc (so)))
    refl is

-- the piece that is found holds the hash
pub found_holds : (hash : ℕ) (pieces : List (ℕ × Piece)) (piece : Piece) → piece_with hash pieces ≡ Some piece
    → holds piece.range hash ≡ true
found_holds hash [] piece is = absurd (cc (is))
found_holds hash (e ∷ es) piece is = at (holds e.1.range hash) refl is (λ later. found_holds hash es piece later)
  where
    at : (b : Bool) → holds e.1.range hash ≡ b → option_map (λ x. x.1) (cond b (Some e) (find (λ x. holds x.1.range hash) es)) ≡ Some piece
        → (piece_with hash es ≡ Some piece → holds piece.range hash ≡ true) → holds piece.range hash ≡ true
    at true held found rest = let same : e.1 ≡ piece = cc (found) in subst (λ (p : Piece). holds p.range hash ≡ true) same held
    at false held found rest = rest found
