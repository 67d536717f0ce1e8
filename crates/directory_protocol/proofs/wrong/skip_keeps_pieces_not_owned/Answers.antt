use Rattle.directory_protocol.proofs.StoryBroken
use Rattle.directory_protocol.proofs.wrong.skip_keeps_pieces_not_owned.Goals as goal

pub returns : goal.returns
returns c = StoryBroken.skip_keeps_pieces_not_owned
