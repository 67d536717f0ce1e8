use Rattle.deployment_progress.proofs.Worked.{worked_exchange}
use Rattle.deployment_progress.proofs.laws.worked_exchange.Goals as goal

pub returns : goal.returns
returns c = worked_exchange
