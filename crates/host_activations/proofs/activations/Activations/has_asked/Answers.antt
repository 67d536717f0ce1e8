use Rattle.std.proofs.Common.{subst}
use Rattle.host_activations.specs.Activations.{ActivationsValue}
use Rattle.host_activations.specs.Listing.{HasAny}
use Rattle.host_activations.proofs.AnyFirm.{any_in_order, any_of_all}
use Rattle.host_activations.proofs.activations.Activations.has_asked.Goals as goal

pub returns-then-same : goal.returns-then-same
returns-then-same c =
    subst (λ (v : ActivationsValue). HasAny c.args.asked.now v.entries c.any_by_hash.result) c.self.view_is
    (any_in_order c.args.asked.now c.self.inside.map c.self.invariant.begun.apart c.any_by_hash.result c.any_by_hash.ensures)

pub returns : goal.returns
returns c =
    subst (λ (v : ActivationsValue). HasAny c.args.asked.now v.entries c.any_among_all.result) c.self.view_is
    (any_of_all c.args.asked.now c.self.inside.map c.self.invariant.begun.apart c.any_among_all.result c.any_among_all.ensures)
