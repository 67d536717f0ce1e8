use Rattle.process_deployment.proofs.FirmStays.{firm_stays}
use Rattle.process_deployment.proofs.Themselves.{written_read_as_themselves}
use Rattle.process_deployment.proofs.laws.firm_stays.Goals as goal

pub returns : goal.returns
returns c = firm_stays written_read_as_themselves
