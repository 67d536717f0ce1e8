use Rattle.process_deployment.proofs.Plain.{lines_are_plain}
use Rattle.process_deployment.proofs.Themselves.{written_read_as_themselves}
use Rattle.process_deployment.proofs.laws.lines_are_plain.Goals as goal

pub returns : goal.returns
returns c = lines_are_plain written_read_as_themselves
