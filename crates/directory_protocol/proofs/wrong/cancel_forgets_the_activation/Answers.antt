use Rattle.directory_protocol.proofs.StoryGivenUp
use Rattle.directory_protocol.proofs.wrong.cancel_forgets_the_activation.Goals as goal

pub returns : goal.returns
returns c = StoryGivenUp.cancel_forgets_the_activation
