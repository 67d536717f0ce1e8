use Rattle.directory_protocol.proofs.StoryReports
use Rattle.directory_protocol.proofs.wrong.skipped_version_still_reports.Goals as goal

pub returns : goal.returns
returns c = StoryReports.skipped_version_still_reports
