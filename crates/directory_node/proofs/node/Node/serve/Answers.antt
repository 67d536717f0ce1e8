use Rattle.std.proofs.Common.{subst, ap}
use Rattle.directory_rules.specs.Answer.{Answered}
use Rattle.node_plans.specs.Node.{HaveRecoveries}
use Rattle.node_plans.proofs.Kept.{answered_keeps}
use Rattle.directory_node.proofs.node.Node.serve.Goals as goal

pub invariant_of-self-2 : goal.invariant_of-self-2
invariant_of-self-2 c =
    let is = ap (λ (a : Answered). a.holding.pieces) c.in_ok-serve.ensures.served in
    record {
      cached = c.self.invariant.cached;
      shelved = c.self.invariant.shelved;
      rising = c.self.invariant.rising;
      recovers =
          subst (λ pieces. HaveRecoveries pieces c.self.inside.recoveries.entries) is
          (answered_keeps c.self.inside.holding c.args.request.now c.self.inside.recoveries.entries c.self.invariant.recovers);
    }
