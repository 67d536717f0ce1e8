use Rattle.directory_protocol.proofs.Histories
use Rattle.directory_protocol.proofs.histories_are_not_read.Goals as goal

pub returns : goal.returns
returns c = Histories.histories_unread
