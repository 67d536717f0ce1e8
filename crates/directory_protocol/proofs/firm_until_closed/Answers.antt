use Rattle.directory_protocol.proofs.FirmUntil
use Rattle.directory_protocol.proofs.firm_until_closed.Goals as goal

pub returns : goal.returns
returns c = FirmUntil.firm_until_closed
