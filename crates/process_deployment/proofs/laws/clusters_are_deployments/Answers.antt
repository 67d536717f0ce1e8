use Rattle.process_deployment.proofs.Following.{clusters_are_deployments}
use Rattle.process_deployment.proofs.Themselves.{written_read_as_themselves}
use Rattle.process_deployment.proofs.laws.clusters_are_deployments.Goals as goal

pub returns : goal.returns
returns c = clusters_are_deployments written_read_as_themselves
