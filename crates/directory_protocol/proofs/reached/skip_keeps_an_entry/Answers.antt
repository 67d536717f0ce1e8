use Rattle.directory_protocol.proofs.StoryOne
use Rattle.directory_protocol.proofs.reached.skip_keeps_an_entry.Goals as goal

pub returns : goal.returns
returns c = StoryOne.keeps_over_skip
