use Rattle.std.proofs.Common.{ap, ◌∙◌}
use Rattle.directory_rules.specs.Host.{is_closing}
use Rattle.host_activations.specs.Activations.{ActivationsValue}
use Rattle.host_activations.specs.UnderWay.{in_phase}
use Rattle.host_activations.proofs.PhaseCounts.{closing_is}
use Rattle.host_activations.proofs.activations.Activations.closing_count.Goals as goal

pub returns : goal.returns
returns c =
    closing_is c.self.inside.under_way c.self.inside.map c.self.invariant.under_way
    ∙ ap (λ (v : ActivationsValue). in_phase is_closing v.entries) c.self.view_is
