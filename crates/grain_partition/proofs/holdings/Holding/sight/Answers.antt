use Rattle.std.proofs.Common.{◌≡◌, ◌∙◌, ap, sym, subst}
use Rattle.directory_rules.specs.State.{Holding}
use Rattle.directory_rules.specs.Sight.{pieces_after}
use Rattle.grain_partition.specs.Holdings.{ArePieces}
use Rattle.grain_partition.specs.Sight.{AreApart}
use Rattle.grain_partition.proofs.BySilo.{own_after, owned_apart}
use Rattle.grain_partition.proofs.Sighted.{pieces-after}
use Rattle.grain_partition.proofs.holdings.Holding.sight.Goals as goal

pub sight-requires-clause-arcs : goal.sight-requires-clause-arcs
sight-requires-clause-arcs c =
    subst (λ l. AreApart l) (sym c.owned_by-owned.ensures) (owned_apart c.args.silo.now c.args.arcs.now c.requires)

pub invariant_of-self-2 : goal.invariant_of-self-2
invariant_of-self-2 c =
    subst (λ pieces. ArePieces pieces) (sym c.in_ok-sight.ensures.after)
    (pieces-after c.args.next c.args.hashing c.args.view.now c.args.silo.now c.self.inside.pieces.entries c.owned_by-owned.result.now
    (subst (λ l. AreApart l) (sym c.owned_by-owned.ensures) (owned_apart c.args.silo.now c.args.arcs.now c.requires)))

pub returns-clause-seen : goal.returns-clause-seen
returns-clause-seen c =
    let after : c.sight.new.pieces.entries ≡ pieces_after c.args.next c.args.hashing c.args.view.now c.args.silo.now c.args.self.now.pieces c.args.arcs.now =
    c.in_ok-sight.ensures.after
    ∙ ap (λ l. pieces_after c.args.next c.args.hashing c.args.view.now c.args.silo.now c.self.inside.pieces.entries l)
    c.owned_by-owned.ensures
    ∙ own_after c.args.next c.args.hashing c.args.view.now c.args.silo.now c.self.inside.pieces.entries c.args.arcs.now
    ∙ ap (λ (h : Holding). pieces_after c.args.next c.args.hashing c.args.view.now c.args.silo.now h.pieces c.args.arcs.now)
    c.self.view_is in
    λ i. record { seen = c.version-self-inside.ensures i; served = c.new.ensures.empty i; pieces = after i }
