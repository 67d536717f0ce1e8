use Rattle.std.proofs.Common.{◌≡◌, length, sym, ap, subst, ◌∙◌, []}
use Rattle.directory_rules.specs.Host.{has_numbers, outstanding}
use Rattle.directory_rules.specs.State.{Node, Holding}
use Rattle.directory_rules.specs.Sight.{pieces_after}
use Rattle.grain_partition.specs.Holdings.{ArePieces}
use Rattle.host_activations.specs.Renewal.{renewal_of}
use Rattle.node_plans.specs.Node.{IsNode}
use Rattle.directory_node.specs.NodeModel.{node_of}
use Rattle.node_plans.specs.Plans.{FitsSight, seen_by}
use Rattle.node_plans.proofs.Numbers.{numbers_fit}
use Rattle.node_plans.proofs.AfterSight.{behind, seen_keeps}
use Rattle.directory_node.proofs.node.Node.see.Goals as goal

pub see_on_shelf-requires-clause-behind : goal.see_on_shelf-requires-clause-behind
see_on_shelf-requires-clause-behind c =
    behind (node_of c.self.inside) c.args.sight (subst (λ (n : Node). FitsSight c.args.sight n) (sym c.self.view_is) c.requires.fits)
    c.self.invariant c.sealed_comes_behind.ensures c.in_order.ensures

pub renew-requires-clause-own : goal.renew-requires-clause-own
renew-requires-clause-own c = c.requires.fits.renewal.own ∙ ap (λ (n : Node). renewal_of n.host) (sym c.self.view_is)

pub renew-requires-clause-numbers : goal.renew-requires-clause-numbers
renew-requires-clause-numbers c =
    let inside = c.self.inside in
    numbers_fit inside.settings inside.host (length (outstanding inside.host)) c.in_range.ensures
    (ap (λ (n : Node). has_numbers n.settings n.host (length (outstanding n.host))) c.self.view_is ∙ c.requires.fits.renewal.numbers)

pub invariant_of-self : goal.invariant_of-self
invariant_of-self c =
    let node = node_of c.self.inside in
    let sight = c.args.sight in
    let fits = subst (λ (n : Node). FitsSight sight n) (sym c.self.view_is) c.requires.fits in
    let holding : c.see_in_holding-room.new.holding ≡ (seen_by sight node).holding = c.in-Ok.ensures.seen
    ∙ (λ i. record {
      seen = sight.view.version;
      served = [];
      pieces = pieces_after sight.next (c.hashing-hashing.ensures i) sight.view
          (c.silo-silo.ensures i) node.holding.pieces sight.transition.arcs;
    }) in
    subst (λ (n : Node). IsNode n) (λ i. record node {
      view = sight.view;
      ring = sym c.into_ring.ensures i;
      holding = sym holding i;
      shelf = sym c.see_on_shelf.ensures i;
      gatherings = sight.gatherings.entries;
      recoveries = sight.recoveries.entries;
      host = sym c.renew.ensures i;
      cache = sym c.see_in_cache.ensures i;
    })
    (seen_keeps node sight fits c.self.invariant (subst (λ (h : Holding). ArePieces h.pieces) holding c.whole.ensures))

pub returns-in-Ok-clause-made : goal.returns-in-Ok-clause-made
returns-in-Ok-clause-made c =
    let node = node_of c.self.inside in
    let sight = c.args.sight in
    let holding : c.see_in_holding-room.new.holding ≡ (seen_by sight node).holding = c.in-Ok.ensures.seen
    ∙ (λ i. record {
      seen = sight.view.version;
      served = [];
      pieces = pieces_after sight.next (c.hashing-hashing.ensures i) sight.view
          (c.silo-silo.ensures i) node.holding.pieces sight.transition.arcs;
    }) in
    (λ i. record node {
      view = sight.view;
      ring = c.into_ring.ensures i;
      holding = holding i;
      shelf = c.see_on_shelf.ensures i;
      gatherings = sight.gatherings.entries;
      recoveries = sight.recoveries.entries;
      host = c.renew.ensures i;
      cache = c.see_in_cache.ensures i;
    })
    ∙ ap (λ (n : Node). seen_by sight n) c.self.view_is
