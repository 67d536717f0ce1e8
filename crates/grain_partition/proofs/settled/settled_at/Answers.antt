use Rattle.std.proofs.Common.{◌≡◌, ◌<◌, true, false, MatchOption, refl, sym, ◌∙◌, ap, subst, arith}
use Rattle.ring_range.specs.Range.{circle, holds}
use Rattle.directory_rules.specs.Laws.{lies_settled}
use Rattle.directory_rules.specs.State.{Piece}
use Rattle.directory_rules.specs.Sight.{is_settled}
use Rattle.directory_rules.proofs.Cases.{on_bool}
use Rattle.grain_partition.specs.Search.{SettlesAt}
use Rattle.grain_partition.proofs.ServedFrom.{found_with}
use Rattle.grain_partition.proofs.SettledHashes.{none_settles, with_settles, with_has}
use Rattle.grain_partition.proofs.settled.settled_at.Goals as goal

pub returns-in_err-piece : goal.returns-in_err-piece
returns-in_err-piece c =
    let below : c.args.hash < circle = omega arith in
    subst (λ o. MatchOption o (lies_settled c.args.hash c.args.pieces.now.entries ≡ false)
    (SettlesAt c.args.pieces.now.entries c.args.hash)) (sym c.from_residual.ensures)
    (none_settles c.args.pieces.now.entries c.requires c.args.hash below (sym c.in_err-piece.ensures))

pub returns-then-not-is_settled : goal.returns-then-not-is_settled
returns-then-not-is_settled c =
    let piece : Piece = c.in_ok-piece.piece.now in
    let below : c.args.hash < circle = omega arith in
    let unsettled : is_settled piece.state ≡ false = sym c.is_settled.ensures ∙ c.if-not-is_settled.true in
    on_bool (λ b. lies_settled c.args.hash c.args.pieces.now.entries ≡ b → b ≡ false) (lies_settled c.args.hash c.args.pieces.now.entries)
    (λ t lies.
    let no : false ≡ true = sym unsettled ∙ with_settles c.args.pieces.now.entries c.requires c.args.hash below piece (sym c.in_ok-piece.ensures) lies in cc)
    (λ f lies. refl) refl

pub returns : goal.returns
returns c =
    let piece : Piece = c.in_ok-piece.piece.now in
    record {
      piece = piece;
      there = found_with c.args.hash c.args.pieces.now.entries c.requires piece (sym c.in_ok-piece.ensures);
      settled = sym c.is_settled.ensures ∙ c.if-not-is_settled.false;
      range_is = sym c.range.ensures;
      has =
          ap (λ r. holds r c.args.hash) c.range.ensures ∙ with_has c.args.hash c.args.pieces.now.entries c.requires piece
          (sym c.in_ok-piece.ensures);
    }
