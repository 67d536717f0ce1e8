use Rattle.directory_protocol.proofs.StoryBroken
use Rattle.directory_protocol.proofs.wrong.offer_starts_at_a_lagging_silo.Goals as goal

pub returns : goal.returns
returns c = StoryBroken.offer_starts_at_a_lagging_silo
