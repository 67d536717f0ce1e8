use Rattle.deployment_progress.proofs.Ended.{requests_end}
use Rattle.deployment_progress.proofs.laws.requests_end.Goals as goal

pub returns : goal.returns
returns c = requests_end
