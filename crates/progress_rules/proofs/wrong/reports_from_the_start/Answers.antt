use Rattle.progress_rules.proofs.Computed.{from_the_start}
use Rattle.progress_rules.proofs.wrong.reports_from_the_start.Goals as goal

pub returns : goal.returns
returns c = from_the_start
