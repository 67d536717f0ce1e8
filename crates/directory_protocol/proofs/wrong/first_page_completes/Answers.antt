use Rattle.directory_protocol.proofs.StoryPages
use Rattle.directory_protocol.proofs.wrong.first_page_completes.Goals as goal

pub returns : goal.returns
returns c = StoryPages.first_page_completes
