use Rattle.deployment_headline.proofs.Called.{calls_are_steps}
use Rattle.deployment_headline.proofs.laws.calls_are_steps.Goals as goal

pub returns : goal.returns
returns c = calls_are_steps
