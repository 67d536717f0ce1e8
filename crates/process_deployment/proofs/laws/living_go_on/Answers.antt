use Rattle.process_deployment.proofs.Ended.{living_go_on}
use Rattle.process_deployment.proofs.Themselves.{written_read_as_themselves}
use Rattle.process_deployment.proofs.laws.living_go_on.Goals as goal

pub returns : goal.returns
returns c = living_go_on written_read_as_themselves
