use Rattle.directory_protocol.proofs.All
use Rattle.directory_protocol.proofs.settled_tables_are_right.Goals as goal

pub returns : goal.returns
returns c = All.settled_tables_are_right
