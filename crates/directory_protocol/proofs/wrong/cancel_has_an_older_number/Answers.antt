use Rattle.directory_protocol.proofs.StoryGivenUp
use Rattle.directory_protocol.proofs.wrong.cancel_has_an_older_number.Goals as goal

pub returns : goal.returns
returns c = StoryGivenUp.cancel_has_an_older_number
