use Rattle.directory_facts.proofs.Transfers.{last_report_settles}
use Rattle.directory_facts.proofs.laws.last_report_settles.Goals as goal

pub returns : goal.returns
returns c = last_report_settles
