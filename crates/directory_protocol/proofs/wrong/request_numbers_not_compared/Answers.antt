use Rattle.directory_protocol.proofs.StoryOne
use Rattle.directory_protocol.proofs.wrong.request_numbers_not_compared.Goals as goal

pub returns : goal.returns
returns c = StoryOne.numbers_not_compared
