use Rattle.directory_protocol.proofs.StoryEntries
use Rattle.directory_protocol.proofs.wrong.deregister_ignores_the_activation.Goals as goal

pub returns : goal.returns
returns c = StoryEntries.deregister_ignores_the_activation
