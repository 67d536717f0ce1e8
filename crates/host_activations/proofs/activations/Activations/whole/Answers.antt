use Rattle.std.proofs.Common.{subst}
use Rattle.std.specs.List.{IsDistinct}
use Rattle.std.specs.Map.{keys_of}
use Rattle.silo_address.specs.Grain.{grain_eq}
use Rattle.host_activations.specs.Activations.{ActivationsValue}
use Rattle.host_activations.specs.InOrder.{in_order}
use Rattle.host_activations.proofs.Ordered.{row_in_order}
use Rattle.host_activations.proofs.Unique.{row_distinct}
use Rattle.host_activations.proofs.activations.Activations.whole.Goals as goal

pub returns-clause-grains : goal.returns-clause-grains
returns-clause-grains c =
    subst (λ (v : ActivationsValue). IsDistinct grain_eq (keys_of v.entries)) c.self.view_is
    (row_distinct (in_order c.self.inside.map) (row_in_order c.self.inside.map c.self.invariant.begun.apart))
