use Rattle.std.proofs.Common.{ap, subst, ◌≡◌, ◌∙◌}
use Rattle.std.specs.Prelude.{IfOk}
use Rattle.directory_rules.specs.Host.{outstanding}
use Rattle.host_activations.specs.Acts.{acts_in}
use Rattle.host_activations.proofs.OutstandingActs.{acts_are}
use Rattle.host_activations.proofs.host.Host.requests.Goals as goal

pub returns : goal.returns
returns c =
    subst (λ l. IfOk c.acts_in.result (λ requests. requests.items ≡ l))
    (ap (λ l. acts_in c.self.inside.silo c.self.inside.held.entries l) c.by_number.ensures
    ∙ acts_are c.self.inside.silo c.self.inside.next_number c.self.inside.held.next_count c.self.inside.held.entries
    c.self.inside.outstanding.entries c.self.invariant.are_held
    ∙ ap outstanding c.self.view_is)
    c.acts_in.ensures
