use Rattle.progress_rules.proofs.Computed.{never_reported}
use Rattle.progress_rules.proofs.wrong.query_of_the_version_is_behind.Goals as goal

pub returns : goal.returns
returns c = never_reported
