use Rattle.directory_protocol.proofs.StoryBroken
use Rattle.directory_protocol.proofs.wrong.recovery_completes_at_first_report.Goals as goal

pub returns : goal.returns
returns c = StoryBroken.recovery_completes_at_first_report
