use Rattle.std.proofs.Common.{sym, ap, subst}
use Rattle.directory_rules.specs.State.{Piece, Holding}
use Rattle.grain_partition.specs.Holdings.{ArePieces, HasPiece}
use Rattle.grain_partition.proofs.Kept.{pieces-with}
use Rattle.grain_partition.proofs.holdings.Holding.install.Goals as goal

pub invariant_of-self : goal.invariant_of-self
invariant_of-self c =
    let piece : Piece = c.settled.result in
    let has : HasPiece piece.range c.self.inside.pieces.entries =
    subst (λ r. HasPiece r c.self.inside.pieces.entries) (sym (ap (λ (p : Piece). p.range) c.settled.ensures))
    (subst (λ (h : Holding). HasPiece c.args.range h.pieces) (sym c.self.view_is) c.requires) in
    subst (λ pieces. ArePieces pieces) (sym c.replace.ensures) (pieces-with c.self.inside.pieces.entries c.self.invariant piece has)
