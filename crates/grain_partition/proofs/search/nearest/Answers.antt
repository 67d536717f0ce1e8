use Rattle.std.proofs.Common.{ℕ}
use Rattle.std.specs.Ordering.{nat_cmp}
use Rattle.std.specs.Map.{lookup}
use Rattle.std.specs.BTreeMap.{is_at}
use Rattle.std.proofs.lemmas.Map.Keys.{le_from_not_gt, ge_from_not_lt}
use Rattle.texts.proofs.Orderings.{upto_nat}
use Rattle.directory_rules.specs.State.{Piece}
use Rattle.grain_partition.proofs.PieceSearch.{nearest_before, nearest_round, past_where}
use Rattle.grain_partition.proofs.search.nearest.Goals as goal

pub returns-in-Some : goal.returns-in-Some
returns-in-Some c =
    let start : ℕ = c.in-Some.field-0-0.now in
    let piece : Piece = c.in-Some.piece.now in
    let shown = c.range.ensures.in_range tt in
    let entry = shown.3 (start, piece) c.next_back.new.self c.in-Some.ensures.steps in
    nearest_before c.args.pieces.now.entries c.requires c.args.hash start piece entry.1 (le_from_not_gt start c.args.hash entry.0.1)
    (λ other le there. ge_from_not_lt start other (shown.4 (start, piece) c.next_back.new.self c.in-Some.ensures.steps other
    (tt, upto_nat other c.args.hash le) there))

pub returns : goal.returns
returns c =
    let start : ℕ = c.in_ok-piece.field-0-0.now in
    let piece : Piece = c.in_ok-piece.piece.now in
    let shown = c.range.ensures.in_range tt in
    nearest_round c.args.pieces.now.entries c.requires c.args.hash start piece c.in_ok-piece.ensures.value
    (λ other there. (
      past_where c.args.hash other (lookup (is_at (nat_cmp other)) c.args.pieces.now.entries)
          (λ le. shown.5 c.in_default.ensures.steps.0 other (tt, upto_nat other c.args.hash le)) there,
      ge_from_not_lt start other (c.in_ok-piece.ensures.greatest other there),
    ))
