use Rattle.process_deployment.proofs.Worked.{another_change_is_told}
use Rattle.process_deployment.proofs.wrong.another_change_is_told.Goals as goal

pub returns : goal.returns
returns c = another_change_is_told
