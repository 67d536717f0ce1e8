use Rattle.deployment_progress.proofs.Owners.{settled_requests_end}
use Rattle.deployment_progress.proofs.laws.settled_requests_end.Goals as goal

pub returns : goal.returns
returns c = settled_requests_end
