use Rattle.process_deployment.proofs.Unjoined.{unjoined_do_nothing}
use Rattle.process_deployment.proofs.laws.unjoined_do_nothing.Goals as goal

pub returns : goal.returns
returns c = unjoined_do_nothing
