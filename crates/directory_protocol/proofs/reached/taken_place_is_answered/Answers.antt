use Rattle.directory_protocol.proofs.StoryTwo
use Rattle.directory_protocol.proofs.reached.taken_place_is_answered.Goals as goal

pub returns : goal.returns
returns c = StoryTwo.finds_place_taken
