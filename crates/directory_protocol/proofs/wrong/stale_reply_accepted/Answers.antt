use Rattle.directory_protocol.proofs.StoryOne
use Rattle.directory_protocol.proofs.wrong.stale_reply_accepted.Goals as goal

pub returns : goal.returns
returns c = StoryOne.stale_reply_accepted
