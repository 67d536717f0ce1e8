use Rattle.process_deployment.proofs.Worked.{worked_cluster}
use Rattle.process_deployment.proofs.laws.worked_cluster.Goals as goal

pub returns : goal.returns
returns c = worked_cluster
