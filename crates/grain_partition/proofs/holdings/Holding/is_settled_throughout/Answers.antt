use Rattle.std.proofs.Common.{subst, sym}
use Rattle.std.specs.Bool.{Decides}
use Rattle.directory_rules.specs.State.{Holding}
use Rattle.grain_partition.specs.Settled.{LiesSettled}
use Rattle.grain_partition.proofs.SettledParts.{Decides-was_settled}
use Rattle.grain_partition.proofs.holdings.Holding.is_settled_throughout.Goals as goal

pub returns-clause-each_hash : goal.returns-clause-each_hash
returns-clause-each_hash c =
    subst (λ (h : Holding). Decides c.are_settled.result (LiesSettled h.pieces c.args.range.now)) c.self.view_is
    (subst (λ b. Decides b (LiesSettled c.self.inside.pieces.entries c.args.range.now)) (sym c.are_settled.ensures)
    (Decides-was_settled c.self.inside.pieces.entries c.self.invariant c.args.range.now c.in_range.ensures))
