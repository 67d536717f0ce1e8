use Rattle.directory_protocol.proofs.StoryBroken
use Rattle.directory_protocol.proofs.wrong.sealed_piece_still_serves.Goals as goal

pub returns : goal.returns
returns c = StoryBroken.sealed_piece_still_serves
