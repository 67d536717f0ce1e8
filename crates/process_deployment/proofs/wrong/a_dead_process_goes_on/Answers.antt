use Rattle.process_deployment.proofs.Worked.{a_dead_process_goes_on}
use Rattle.process_deployment.proofs.wrong.a_dead_process_goes_on.Goals as goal

pub returns : goal.returns
returns c = a_dead_process_goes_on
