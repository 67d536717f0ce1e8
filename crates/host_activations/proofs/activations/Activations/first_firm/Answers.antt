use Rattle.std.proofs.Common.{sym, subst}
use Rattle.std.proofs.lemmas.Result.{IfOk-weaker}
use Rattle.host_activations.specs.Activations.{ActivationsValue}
use Rattle.host_activations.specs.Listing.{AreFirst}
use Rattle.host_activations.proofs.Pages.{all_listed, first_in_order}
use Rattle.host_activations.proofs.activations.Activations.first_firm.Goals as goal

pub returns-then-same : goal.returns-then-same
returns-then-same c =
    IfOk-weaker c.first_by_hash.result _ _
    (λ firm first. subst (λ (v : ActivationsValue). AreFirst c.args.asked.now v.entries firm.items) c.self.view_is
    (first_in_order c.args.asked.now c.self.inside.map c.self.invariant.begun.apart firm.items first)) c.first_by_hash.ensures

pub returns : goal.returns
returns c =
    IfOk-weaker c.firm_among_all.result _ _
    (λ firm all. subst (λ (v : ActivationsValue). AreFirst c.args.asked.now v.entries firm.items) c.self.view_is
    (first_in_order c.args.asked.now c.self.inside.map c.self.invariant.begun.apart firm.items
    (subst (AreFirst c.args.asked.now c.self.inside.map) (sym all)
    (all_listed c.args.asked.now c.self.inside.map c.self.invariant.begun.apart.grains)))) c.firm_among_all.ensures
