use Rattle.std.proofs.Common.{sym, ap, ◌∙◌, length}
use Rattle.host_activations.specs.Activations.{ActivationsValue}
use Rattle.host_activations.proofs.Ordered.{length_in_order}
use Rattle.host_activations.proofs.activations.Activations.len.Goals as goal

pub returns : goal.returns
returns c = c.len.ensures ∙ sym (length_in_order c.self.inside.map) ∙ ap (λ (v : ActivationsValue). length v.entries) c.self.view_is
