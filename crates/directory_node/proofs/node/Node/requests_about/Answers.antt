use Rattle.std.proofs.Common.{◌≡◌, ap, subst, ◌∙◌, length}
use Rattle.std.specs.Prelude.{IfOk}
use Rattle.directory_rules.specs.State.{Host, Node}
use Rattle.directory_rules.specs.Host.{has_numbers, renewed_about, requests_about}
use Rattle.node_plans.proofs.Numbers.{numbers_fit}
use Rattle.directory_node.proofs.node.Node.requests_about.Goals as goal

pub renewed_requests_about-requires : goal.renewed_requests_about-requires
renewed_requests_about-requires c =
    let inside = c.self.inside in
    numbers_fit inside.settings inside.host (length (requests_about c.args.grain.now inside.host)) c.in_range.ensures
    (ap (λ (n : Node). has_numbers n.settings n.host (length (requests_about c.args.grain.now n.host))) c.self.view_is ∙ c.requires)

pub returns : goal.returns
returns c =
    subst (λ (h : Host). IfOk c.renewed_requests_about.result
    (λ requests. requests.items ≡ requests_about c.args.grain.now (renewed_about c.args.grain.now h)))
    (ap (λ (n : Node). n.host) c.self.view_is) c.renewed_requests_about.ensures
