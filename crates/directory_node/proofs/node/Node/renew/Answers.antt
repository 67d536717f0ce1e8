use Rattle.std.proofs.Common.{length, sym, ap, ◌∙◌}
use Rattle.directory_rules.specs.Host.{has_numbers, outstanding}
use Rattle.directory_rules.specs.State.{Node}
use Rattle.host_activations.specs.Renewal.{renewal_of}
use Rattle.node_plans.proofs.Numbers.{numbers_fit}
use Rattle.directory_node.proofs.node.Node.renew.Goals as goal

pub renew-requires-clause-own : goal.renew-requires-clause-own
renew-requires-clause-own c = c.requires.may.own ∙ ap (λ (n : Node). renewal_of n.host) (sym c.self.view_is)

pub renew-requires-clause-numbers : goal.renew-requires-clause-numbers
renew-requires-clause-numbers c =
    let inside = c.self.inside in
    numbers_fit inside.settings inside.host (length (outstanding inside.host)) c.in_range.ensures
    (ap (λ (n : Node). has_numbers n.settings n.host (length (outstanding n.host))) c.self.view_is ∙ c.requires.may.numbers)
