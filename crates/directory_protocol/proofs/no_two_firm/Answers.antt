use Rattle.directory_protocol.proofs.All
use Rattle.directory_protocol.proofs.no_two_firm.Goals as goal

pub returns : goal.returns
returns c = All.no_two_firm
