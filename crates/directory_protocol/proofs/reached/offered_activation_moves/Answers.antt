use Rattle.directory_protocol.proofs.StoryTwo
use Rattle.directory_protocol.proofs.reached.offered_activation_moves.Goals as goal

pub returns : goal.returns
returns c = StoryTwo.migrates
