use Rattle.std.proofs.Common.{sym, ap, subst, ◌∙◌}
use Rattle.directory_rules.specs.Sight.{sealed}
use Rattle.grain_partition.specs.Seen.{pieces_seen}
use Rattle.grain_partition.specs.Sight.{AreOfRings}
use Rattle.node_plans.specs.Transition.{TransitionValue}
use Rattle.std.proofs.lemmas.Result.{IfOk-weaker}
use Rattle.node_plans.specs.Plans.{FitsSight}
use Rattle.node_plans.specs.declared.plan.Sight.{Sight}
use Rattle.node_plans.proofs.AfterSight.{fits_if}
use Rattle.directory_node.proofs.node.Node.sight.Goals as goal

pub returns-clause-fits : goal.returns-clause-fits
returns-clause-fits c =
    let node = c.args.self.now in
    let its = sym c.in_ok-copies.ensures.transition in
    IfOk-weaker c.boxed.result _ _
    (λ sight is. subst (λ (s : Sight). FitsSight s node) (sym is)
    (fits_if node _ c.args.view.now c.args.pieces.now.entries c.in_ok-copies.ensures.view c.requires.newer
    (subst (λ (t : TransitionValue). AreOfRings t.arcs) its c.requires.arcs)
    (λ is. c.in_ok-sealed.ensures is ∙ ap (λ l. sealed node.settings.hashing c.args.view.now node.host.silo node.holding.pieces l)
    (c.arcs.ensures ∙ ap (λ (t : TransitionValue). t.arcs) its))
    (c.requires.seen ∙ ap (λ (t : TransitionValue). pieces_seen c.args.next node.settings.hashing c.args.view.now node.host.silo
    node.holding.pieces t.arcs) its)
    c.in_ok-waits.ensures.gatherings c.in_ok-waits.ensures.recoveries
    (record { own = c.in_ok-renewal.ensures; numbers = c.requires.numbers })))
    c.boxed.ensures
