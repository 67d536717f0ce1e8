use Rattle.directory_protocol.proofs.StoryOne
use Rattle.directory_protocol.proofs.reached.stale_reply_is_ignored.Goals as goal

pub returns : goal.returns
returns c = StoryOne.ignores_stale_reply
