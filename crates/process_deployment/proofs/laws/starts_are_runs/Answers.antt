use Rattle.process_deployment.proofs.Started.{starts_are_runs}
use Rattle.process_deployment.proofs.laws.starts_are_runs.Goals as goal

pub returns : goal.returns
returns c = starts_are_runs
