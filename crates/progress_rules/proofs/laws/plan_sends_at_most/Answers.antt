use Rattle.progress_rules.proofs.PlanSends.{plan_sends_at_most}
use Rattle.progress_rules.proofs.laws.plan_sends_at_most.Goals as goal

pub returns : goal.returns
returns c = plan_sends_at_most
