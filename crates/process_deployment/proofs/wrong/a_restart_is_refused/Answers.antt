use Rattle.process_deployment.proofs.Worked.{a_restart_is_refused}
use Rattle.process_deployment.proofs.wrong.a_restart_is_refused.Goals as goal

pub returns : goal.returns
returns c = a_restart_is_refused
