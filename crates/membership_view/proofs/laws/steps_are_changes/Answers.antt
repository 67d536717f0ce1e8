use Rattle.membership_view.proofs.Accepted.{steps_are_changes}
use Rattle.membership_view.proofs.laws.steps_are_changes.Goals as goal

pub returns : goal.returns
returns c = steps_are_changes
