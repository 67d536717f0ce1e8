use Rattle.directory_protocol.proofs.All
use Rattle.directory_protocol.proofs.one_silo_settles.Goals as goal

pub returns : goal.returns
returns c = All.one_silo_settles
