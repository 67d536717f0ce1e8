use Rattle.directory_protocol.proofs.StoryOne
use Rattle.directory_protocol.proofs.reached.old_number_is_refused.Goals as goal

pub returns : goal.returns
returns c = StoryOne.refuses_old_number
