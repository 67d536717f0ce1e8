use Rattle.std.proofs.Common.{◌∙◌, ap}
use Rattle.directory_rules.specs.State.{Holding}
use Rattle.directory_rules.specs.Sight.{sealed}
use Rattle.grain_table.proofs.Within.{if_ok}
use Rattle.grain_partition.proofs.BySilo.{own_sealed}
use Rattle.grain_partition.proofs.holdings.Holding.seal.Goals as goal

pub returns : goal.returns
returns c =
    if_ok c.sealed.result c.sealed.ensures
    (λ snapshots is.
    is
    ∙ ap (λ l. sealed c.args.hashing c.args.view.now c.args.silo.now c.self.inside.pieces.entries l) c.given_by-given.ensures
    ∙ own_sealed c.args.hashing c.args.view.now c.args.silo.now c.self.inside.pieces.entries c.args.arcs.now
    ∙ ap (λ (h : Holding). sealed c.args.hashing c.args.view.now c.args.silo.now h.pieces c.args.arcs.now) c.self.view_is)
