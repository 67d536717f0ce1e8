use Rattle.std.proofs.Common.{ap, refl}
use Rattle.host_activations.specs.Outstanding.{OutstandingValue}
use Rattle.host_activations.proofs.Same.{Decides-host}
use Rattle.host_activations.proofs.host.Host.same.Goals as goal

pub returns : goal.returns
returns c =
    Decides-host c.self.inside c.other.inside c.self.invariant c.other.invariant (c.if-not-same.ensures.0 refl) c.if-self-other.false
    (c.if-not-same-2.ensures.0 refl)
    c.same-3.result (
      λ is. ap (λ (v : OutstandingValue). v.entries) (c.same-3.ensures.0 is),
      λ e. c.same-3.ensures.1
          (λ i. record { entries = e i }),
    ) c.args.self.now c.args.other.now c.self.view_is c.other.view_is
