use Rattle.directory_protocol.proofs.StoryPages
use Rattle.directory_protocol.proofs.wrong.pages_by_number.Goals as goal

pub returns : goal.returns
returns c = StoryPages.pages_by_number
