use Rattle.process_deployment.proofs.Worked.{a_forged_line_confirms}
use Rattle.process_deployment.proofs.wrong.a_forged_line_confirms.Goals as goal

pub returns : goal.returns
returns c = a_forged_line_confirms
