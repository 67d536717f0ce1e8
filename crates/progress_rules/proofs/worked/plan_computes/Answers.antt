use Rattle.progress_rules.proofs.Computed.{limits_computed, plan_computed}
use Rattle.progress_rules.proofs.worked.plan_computes.Goals as goal

pub returns : goal.returns
returns c = record { plan = plan_computed; limits = limits_computed }
