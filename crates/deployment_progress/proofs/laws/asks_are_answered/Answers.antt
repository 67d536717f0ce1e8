use Rattle.deployment_progress.proofs.Back.{asks_are_answered}
use Rattle.deployment_progress.proofs.laws.asks_are_answered.Goals as goal

pub returns : goal.returns
returns c = asks_are_answered
