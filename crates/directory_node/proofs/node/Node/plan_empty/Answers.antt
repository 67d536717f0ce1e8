use Rattle.std.proofs.Common.{[], fold, ◌∙◌}
use Rattle.directory_rules.specs.Transfer.{told_nothing}
use Rattle.node_plans.specs.Plans.{empty_from}
use Rattle.directory_node.proofs.node.Node.plan_empty.Goals as goal

pub returns-clause-planned : goal.returns-clause-planned
returns-clause-planned c =
    c.silent.ensures.planned c.args.self.now
    ∙ (λ i. record {
      node =
          fold (told_nothing (empty_from (c.from.ensures i) (c.version.ensures i))) c.args.self.now (c.in_ok-copied_ranges.ensures i);
      letters = [];
      effect = c.empty_effect-effect.ensures i;
    })
