use Rattle.deployment_progress.proofs.Later.{silos_wait_for_less}
use Rattle.deployment_progress.proofs.laws.silos_wait_for_less.Goals as goal

pub returns : goal.returns
returns c = silos_wait_for_less
