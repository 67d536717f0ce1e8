use Rattle.deployment_progress.proofs.Settle.{all_ranges_settle}
use Rattle.deployment_progress.proofs.laws.all_ranges_settle.Goals as goal

pub returns : goal.returns
returns c = all_ranges_settle
