use Rattle.deployment_headline.proofs.Runs.{processes_are_own}
use Rattle.deployment_headline.proofs.laws.processes_are_own.Goals as goal

pub returns : goal.returns
returns c = processes_are_own
