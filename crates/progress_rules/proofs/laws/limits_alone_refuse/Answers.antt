use Rattle.progress_rules.proofs.Limits.{limits_alone_refuse}
use Rattle.progress_rules.proofs.laws.limits_alone_refuse.Goals as goal

pub returns : goal.returns
returns c = limits_alone_refuse
