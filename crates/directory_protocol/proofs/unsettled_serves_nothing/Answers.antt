use Rattle.directory_protocol.proofs.All
use Rattle.directory_protocol.proofs.unsettled_serves_nothing.Goals as goal

pub returns : goal.returns
returns c = All.only_settled_answer
