use Rattle.std.proofs.Common.{ap, ◌∙◌, length}
use Rattle.directory_rules.specs.State.{Host}
use Rattle.host_activations.proofs.host.Host.find_count.Goals as goal

pub returns : goal.returns
returns c = c.find_count.ensures ∙ ap (λ (h : Host). length h.finds) c.self.view_is
