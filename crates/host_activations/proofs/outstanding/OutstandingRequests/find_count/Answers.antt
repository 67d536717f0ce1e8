use Rattle.std.proofs.Common.{ap, ◌∙◌, length}
use Rattle.host_activations.specs.Asked.{finds_in}
use Rattle.host_activations.specs.Outstanding.{OutstandingValue}
use Rattle.host_activations.proofs.outstanding.OutstandingRequests.find_count.Goals as goal

pub returns : goal.returns
returns c = c.len.ensures.len ∙ c.self.invariant.counted ∙ ap (λ (v : OutstandingValue). length (finds_in v.entries)) c.self.view_is
