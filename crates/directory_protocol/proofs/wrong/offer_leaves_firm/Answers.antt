use Rattle.directory_protocol.proofs.StoryEntries
use Rattle.directory_protocol.proofs.wrong.offer_leaves_firm.Goals as goal

pub returns : goal.returns
returns c = StoryEntries.offer_leaves_firm
