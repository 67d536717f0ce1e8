use Rattle.std.proofs.Common.{◌∙◌, ap, sym, subst}
use Rattle.directory_rules.specs.State.{Holding}
use Rattle.grain_table.proofs.Within.{if_ok}
use Rattle.grain_partition.specs.Seen.{pieces_seen}
use Rattle.grain_partition.specs.Sight.{AreApart}
use Rattle.grain_partition.proofs.BySilo.{own_seen, owned_apart}
use Rattle.grain_partition.proofs.holdings.Holding.pieces_seen.Goals as goal

pub pieces_seen-requires-clause-arcs : goal.pieces_seen-requires-clause-arcs
pieces_seen-requires-clause-arcs c =
    subst (λ l. AreApart l) (sym c.owned_by-owned.ensures) (owned_apart c.args.silo.now c.args.arcs.now c.requires)

pub returns-clause-exact : goal.returns-clause-exact
returns-clause-exact c =
    if_ok c.pieces_seen.result c.pieces_seen.ensures.exact
    (λ seen is.
    is
    ∙ ap (λ l. pieces_seen c.args.next c.args.hashing c.args.view.now c.args.silo.now c.self.inside.pieces.entries l)
    c.owned_by-owned.ensures
    ∙ own_seen c.args.next c.args.hashing c.args.view.now c.args.silo.now c.self.inside.pieces.entries c.args.arcs.now
    ∙ ap (λ (h : Holding). pieces_seen c.args.next c.args.hashing c.args.view.now c.args.silo.now h.pieces c.args.arcs.now) c.self.view_is)
