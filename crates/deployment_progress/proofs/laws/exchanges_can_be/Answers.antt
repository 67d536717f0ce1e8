use Rattle.deployment_progress.proofs.Possible.{exchanges_can_be}
use Rattle.deployment_progress.proofs.laws.exchanges_can_be.Goals as goal

pub returns : goal.returns
returns c = exchanges_can_be
