use Rattle.std.proofs.Common.{rules, sym, subst, []}
use Rattle.directory_rules.specs.State.{Holding}
use Rattle.directory_rules.specs.declared.PieceState.TheVariants.{Recovering}
use Rattle.grain_partition.specs.Holdings.{ArePieces, HasPiece}
use Rattle.grain_partition.proofs.Kept.{pieces-with}
use Rattle.grain_partition.proofs.holdings.Holding.wait_for_reports.Goals as goal

pub invariant_of-self : goal.invariant_of-self
invariant_of-self c =
    let has : HasPiece c.args.range c.self.inside.pieces.entries = subst (λ (h : Holding). HasPiece c.args.range h.pieces) (sym c.self.view_is) c.requires in
    subst (λ pieces. ArePieces pieces) (sym c.recover.ensures)
    (pieces-with c.self.inside.pieces.entries c.self.invariant (record { range = c.args.range; state = Recovering; entries = [] }) has)

pub returns : goal.returns
returns c = search rules
