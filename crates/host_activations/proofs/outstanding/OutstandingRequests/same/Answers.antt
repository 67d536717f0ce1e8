use Rattle.std.proofs.Common.{ap, sym, ◌∙◌}
use Rattle.host_activations.specs.Outstanding.{OutstandingValue}
use Rattle.host_activations.proofs.outstanding.OutstandingRequests.same.Goals as goal

pub returns : goal.returns
returns c = (
  λ is. sym c.self.view_is ∙ (λ i. record { entries = c.same_requests.ensures.0 is i }) ∙ c.other.view_is,
  λ e. c.same_requests.ensures.1 (ap (λ (v : OutstandingValue). v.entries) (c.self.view_is ∙ e ∙ sym c.other.view_is)),
)
