use Rattle.directory_rules.proofs.Worked.{refusals_computed}
use Rattle.directory_rules.proofs.laws.refusals_compute.Goals as goal

pub returns : goal.returns
returns c = refusals_computed
