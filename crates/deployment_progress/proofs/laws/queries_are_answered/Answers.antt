use Rattle.deployment_progress.proofs.Back.{queries_are_answered}
use Rattle.deployment_progress.proofs.laws.queries_are_answered.Goals as goal

pub returns : goal.returns
returns c = queries_are_answered
