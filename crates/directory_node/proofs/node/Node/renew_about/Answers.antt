use Rattle.std.proofs.Common.{ap, ◌∙◌, length}
use Rattle.directory_rules.specs.Host.{has_numbers, requests_about}
use Rattle.directory_rules.specs.State.{Node}
use Rattle.node_plans.proofs.Numbers.{numbers_fit}
use Rattle.directory_node.proofs.node.Node.renew_about.Goals as goal

pub renew_about-requires : goal.renew_about-requires
renew_about-requires c =
    let inside = c.self.inside in
    record {
      numbers = numbers_fit inside.settings inside.host (length (requests_about c.args.grain.now inside.host)) c.in_range.ensures
          (ap (λ (n : Node). has_numbers n.settings n.host (length (requests_about c.args.grain.now n.host))) c.self.view_is
          ∙ c.requires.numbers);
    }
