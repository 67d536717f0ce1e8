use Rattle.std.proofs.Common.{ap, ◌∙◌}
use Rattle.directory_rules.specs.Host.{is_asking}
use Rattle.host_activations.specs.Activations.{ActivationsValue}
use Rattle.host_activations.specs.UnderWay.{in_phase}
use Rattle.host_activations.proofs.PhaseCounts.{asking_is}
use Rattle.host_activations.proofs.activations.Activations.asking_count.Goals as goal

pub returns : goal.returns
returns c =
    asking_is c.self.inside.under_way c.self.inside.map c.self.invariant.under_way
    ∙ ap (λ (v : ActivationsValue). in_phase is_asking v.entries) c.self.view_is
