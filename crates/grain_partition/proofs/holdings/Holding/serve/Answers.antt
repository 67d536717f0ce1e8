use Rattle.std.proofs.Common.{◌≡◌, Ok, sym, ap, ◌∙◌, is_some, subst}
use Rattle.std.specs.Map.{lookup}
use Rattle.std.specs.BTreeMap.{is_at}
use Rattle.std.specs.Ordering.{nat_cmp}
use Rattle.ring_range.specs.Range.{Range}
use Rattle.directory_rules.specs.declared.act.Request.{Request}
use Rattle.directory_rules.specs.Answer.{is_numbered, serving_piece}
use Rattle.directory_rules.specs.State.{Piece}
use Rattle.grain_partition.proofs.ServedFrom.{serving_found, answer_after}
use Rattle.grain_partition.proofs.holdings.Holding.serve.Goals as goal

pub serve_from-requires : goal.serve_from-requires
serve_from-requires c =
    let piece : Piece = c.in-Ok.piece.now in
    let at : c.start-start.result ≡ piece.range.start = c.start-start.ensures ∙ ap (λ (r : Range). r.start) c.range.ensures in
    let serves : serving_piece c.args.self.now c.args.request.now ≡ Ok piece = subst (λ (asked : Request). serving_piece c.args.self.now asked ≡ Ok piece) c.request-asked.ensures c.in-Ok.ensures in
    ap (λ k. is_some (lookup (is_at (nat_cmp k)) c.args.self.now.pieces)) at
    ∙ ap is_some (serving_found c.args.self.now c.whole.ensures c.args.request.now piece serves)

pub returns-clause-served : goal.returns-clause-served
returns-clause-served c =
    let piece : Piece = c.in-Ok.piece.now in
    let at : c.start-start.result ≡ piece.range.start = c.start-start.ensures ∙ ap (λ (r : Range). r.start) c.range.ensures in
    let serves : serving_piece c.args.self.now c.args.request.now ≡ Ok piece = subst (λ (asked : Request). serving_piece c.args.self.now asked ≡ Ok piece) c.request-asked.ensures c.in-Ok.ensures in
    let numbered = ap (λ (asked : Request). is_numbered asked.act) (sym c.request-asked.ensures) ∙ sym c.is_numbered.ensures ∙ c.if-not-is_numbered.false in
    answer_after c.args.self.now c.serve_from.new.self c.whole.ensures c.args.request.now piece serves numbered
    c.start-start.result at c.serve_from.result c.serve_from.ensures.turned c.serve_from.ensures.noted
