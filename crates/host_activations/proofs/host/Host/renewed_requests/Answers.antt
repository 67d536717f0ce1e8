use Rattle.std.proofs.Common.{ap, subst, ◌≡◌, ◌∙◌}
use Rattle.std.specs.Prelude.{IfOk}
use Rattle.host_activations.specs.Acts.{acts_in}
use Rattle.host_activations.proofs.Renewals.{renewal_is, requests_are}
use Rattle.host_activations.proofs.host.Host.renewed_requests.Goals as goal

pub returns : goal.returns
returns c =
    subst (λ l. IfOk c.acts_in.result (λ requests. requests.items ≡ l))
    (ap (λ l. acts_in c.self.inside.silo c.self.inside.held.entries l)
    (c.by_number.ensures ∙ c.renewal.view_is ∙ c.requires ∙ renewal_is c.self.inside c.self.invariant c.args.self.now c.self.view_is)
    ∙ requests_are c.self.inside c.self.invariant c.args.self.now c.self.view_is)
    c.acts_in.ensures
