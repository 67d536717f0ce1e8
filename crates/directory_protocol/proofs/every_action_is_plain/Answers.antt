use Rattle.directory_protocol.proofs.PlainSteps
use Rattle.directory_protocol.proofs.every_action_is_plain.Goals as goal

pub returns : goal.returns
returns c = PlainSteps.every_action_is_plain
