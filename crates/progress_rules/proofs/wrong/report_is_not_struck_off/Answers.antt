use Rattle.progress_rules.proofs.Computed.{never_struck_off}
use Rattle.progress_rules.proofs.wrong.report_is_not_struck_off.Goals as goal

pub returns : goal.returns
returns c = never_struck_off
