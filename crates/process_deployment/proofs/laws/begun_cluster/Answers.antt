use Rattle.process_deployment.proofs.Begun.{begun_cluster}
use Rattle.process_deployment.proofs.laws.begun_cluster.Goals as goal

pub returns : goal.returns
returns c = begun_cluster
