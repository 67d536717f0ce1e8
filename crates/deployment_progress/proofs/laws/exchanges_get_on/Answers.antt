use Rattle.deployment_progress.proofs.Settle.{exchanges_get_on}
use Rattle.deployment_progress.proofs.laws.exchanges_get_on.Goals as goal

pub returns : goal.returns
returns c = exchanges_get_on
