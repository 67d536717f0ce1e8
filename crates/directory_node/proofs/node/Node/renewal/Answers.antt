use Rattle.std.proofs.Common.{◌≡◌, ap, subst}
use Rattle.std.specs.Prelude.{IfOk}
use Rattle.directory_rules.specs.State.{Host, Node}
use Rattle.host_activations.specs.Renewal.{renewal_of}
use Rattle.directory_node.proofs.node.Node.renewal.Goals as goal

pub returns : goal.returns
returns c =
    subst (λ (h : Host). IfOk c.renewal.result (λ renewal. renewal ≡ renewal_of h)) (ap (λ (n : Node). n.host) c.self.view_is)
    c.renewal.ensures
