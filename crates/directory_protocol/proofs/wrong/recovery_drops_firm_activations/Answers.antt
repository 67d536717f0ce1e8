use Rattle.directory_protocol.proofs.StoryReports
use Rattle.directory_protocol.proofs.wrong.recovery_drops_firm_activations.Goals as goal

pub returns : goal.returns
returns c = StoryReports.recovery_drops_firm_activations
