use Rattle.directory_protocol.proofs.StoryTwo
use Rattle.directory_protocol.proofs.reached.transfer_brings_an_entry.Goals as goal

pub returns : goal.returns
returns c = StoryTwo.transfers_entry
