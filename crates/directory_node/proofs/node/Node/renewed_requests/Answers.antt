use Rattle.std.proofs.Common.{◌≡◌, ap, subst, sym, ◌∙◌}
use Rattle.std.specs.Prelude.{IfOk}
use Rattle.directory_rules.specs.State.{Host, Node}
use Rattle.directory_rules.specs.Host.{outstanding, renewed}
use Rattle.host_activations.specs.Renewal.{renewal_of}
use Rattle.directory_node.proofs.node.Node.renewed_requests.Goals as goal

pub renewed_requests-requires : goal.renewed_requests-requires
renewed_requests-requires c = c.requires ∙ ap (λ (n : Node). renewal_of n.host) (sym c.self.view_is)

pub returns : goal.returns
returns c =
    subst (λ (h : Host). IfOk c.renewed_requests.result (λ requests. requests.items ≡ outstanding (renewed h)))
    (ap (λ (n : Node). n.host) c.self.view_is) c.renewed_requests.ensures
