use Rattle.std.proofs.Common.{ap}
use Rattle.host_activations.specs.Activations.{ActivationsValue}
use Rattle.host_activations.specs.Outstanding.{OutstandingValue}
use Rattle.host_activations.proofs.Beginnings.{nothing_is}
use Rattle.host_activations.proofs.host.Host.new.Goals as goal

pub invariant_of-result : goal.invariant_of-result
invariant_of-result c =
    nothing_is c.args.first_number c.requires.above c.requires.within c.new.result c.new-2.result.entries
    (ap (λ (v : ActivationsValue). v.entries) c.new.ensures) (ap (λ (v : OutstandingValue). v.entries) c.new-2.ensures)
