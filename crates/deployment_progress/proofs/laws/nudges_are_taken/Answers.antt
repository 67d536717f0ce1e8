use Rattle.deployment_progress.proofs.Nudged.{nudges_are_taken}
use Rattle.deployment_progress.proofs.laws.nudges_are_taken.Goals as goal

pub returns : goal.returns
returns c = nudges_are_taken
