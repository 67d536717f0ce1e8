use Rattle.deployment_progress.proofs.Settle.{ranges_settle}
use Rattle.deployment_progress.proofs.laws.ranges_settle.Goals as goal

pub returns : goal.returns
returns c = ranges_settle
