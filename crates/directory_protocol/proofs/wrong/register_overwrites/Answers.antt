use Rattle.directory_protocol.proofs.StoryBroken
use Rattle.directory_protocol.proofs.wrong.register_overwrites.Goals as goal

pub returns : goal.returns
returns c = StoryBroken.register_overwrites
