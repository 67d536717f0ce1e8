use Rattle.membership_view.proofs.WorkedOut.{worked}
use Rattle.membership_view.proofs.laws.changes_compute.Goals as goal

pub returns : goal.returns
returns c = worked
