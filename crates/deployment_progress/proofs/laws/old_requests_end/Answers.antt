use Rattle.deployment_progress.proofs.Ended.{old_requests_end}
use Rattle.deployment_progress.proofs.laws.old_requests_end.Goals as goal

pub returns : goal.returns
returns c = old_requests_end
