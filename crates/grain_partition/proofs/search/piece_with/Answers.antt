use Rattle.std.proofs.Common.{◌≡◌, ◌<◌, true, false, sym, ◌∙◌, ap, if◌then◌else◌, Some, None, arith}
use Rattle.ring_range.specs.Range.{circle, Range, holds}
use Rattle.directory_rules.specs.State.{Piece}
use Rattle.grain_partition.proofs.PieceSearch.{piece_with_nearest}
use Rattle.grain_partition.proofs.search.piece_with.Goals as goal

pub returns-then-not-contains : goal.returns-then-not-contains
returns-then-not-contains c =
    let piece : Piece = c.in_ok-piece.piece.now in
    let below : c.args.hash < circle = omega arith in
    let misses : holds piece.range c.args.hash ≡ false =
    ap (λ (r : Range). holds r c.args.hash) (sym c.range.ensures) ∙ sym c.contains.ensures.exact ∙ c.if-not-contains.true in
    sym (piece_with_nearest c.args.pieces.now.entries c.requires c.args.hash below piece c.in_ok-piece.ensures
    ∙ ap (λ b. if b then Some piece else None) misses)

pub returns : goal.returns
returns c =
    let piece : Piece = c.in_ok-piece.piece.now in
    let below : c.args.hash < circle = omega arith in
    let has : holds piece.range c.args.hash ≡ true =
    ap (λ (r : Range). holds r c.args.hash) (sym c.range.ensures) ∙ sym c.contains.ensures.exact ∙ c.if-not-contains.false in
    sym (piece_with_nearest c.args.pieces.now.entries c.requires c.args.hash below piece c.in_ok-piece.ensures
    ∙ ap (λ b. if b then Some piece else None) has)
