use Rattle.process_deployment.proofs.Firm.{lines_tell_firm}
use Rattle.process_deployment.proofs.Themselves.{written_read_as_themselves}
use Rattle.process_deployment.proofs.laws.lines_tell_firm.Goals as goal

pub returns : goal.returns
returns c = lines_tell_firm written_read_as_themselves
