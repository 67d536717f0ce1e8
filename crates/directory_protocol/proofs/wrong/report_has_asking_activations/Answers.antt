use Rattle.directory_protocol.proofs.StoryReports
use Rattle.directory_protocol.proofs.wrong.report_has_asking_activations.Goals as goal

pub returns : goal.returns
returns c = StoryReports.report_has_asking_activations
