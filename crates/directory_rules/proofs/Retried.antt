-- A piece that isn't settled serves no request.
use Rattle.std.proofs.Common.{◌≡◌, refl, sym, subst}
use Rattle.std.specs.Prelude.{cond, ◌==◌, Result, Err}
use Rattle.directory_rules.specs.declared.act.Request.{Request}
use Rattle.directory_rules.specs.declared.reply.Why.{Why}
use Rattle.directory_rules.specs.declared.reply.Why.TheVariants.{View, Unsettled}
use Rattle.directory_rules.specs.declared.reply.Reply.TheVariants.{Retry}
use Rattle.directory_rules.specs.declared.piece_state.PieceState.{PieceState}
use Rattle.directory_rules.specs.declared.piece_state.PieceState.TheVariants.{Settled, Awaiting, Recovering}
use Rattle.directory_rules.specs.State.{Piece, Holding}
use Rattle.directory_rules.specs.Answer.{piece_with, serving_by_state, serving_by_piece, answered_from}
use Rattle.directory_rules.specs.Laws.{UnsettledPieceServesNothing}
use Rattle.directory_rules.proofs.Cases.{on_bool}

abbrev Retries : Holding → Request → Result Piece Why → Type 0
Retries holding request serving = (why : Why) × ((answered_from serving holding request).reply ≡ Retry why)

by_state : (state : PieceState) (piece : Piece) (holding : Holding) (request : Request) → ¬ (state ≡ Settled)
    → Retries holding request (serving_by_state state piece holding request)
by_state Settled piece holding request not = absurd (not refl)
by_state (Awaiting from) piece holding request not = (Unsettled, refl)
by_state Recovering piece holding request not = (Unsettled, refl)

pub unsettled_retries : UnsettledPieceServesNothing
unsettled_retries holding request piece found not =
    on_bool (λ b. Retries holding request (cond b (serving_by_piece (piece_with request.hash holding.pieces) holding request)
    (Err (View holding.seen)))) (request.version == holding.seen)
    (λ t. subst (λ o. Retries holding request (serving_by_piece o holding request)) (sym found)
    (by_state piece.state piece holding request not))
    (λ f. (View holding.seen, refl))
