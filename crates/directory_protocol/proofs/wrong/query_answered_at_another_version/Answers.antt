use Rattle.directory_protocol.proofs.StoryReports
use Rattle.directory_protocol.proofs.wrong.query_answered_at_another_version.Goals as goal

pub returns : goal.returns
returns c = StoryReports.query_answered_at_another_version
