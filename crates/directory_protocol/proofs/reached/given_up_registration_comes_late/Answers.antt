use Rattle.directory_protocol.proofs.StoryGivenUp
use Rattle.directory_protocol.proofs.reached.given_up_registration_comes_late.Goals as goal

pub returns : goal.returns
returns c = StoryGivenUp.gives_up_in_time
