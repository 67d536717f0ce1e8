use Rattle.membership_view.proofs.Unchanged.{one_is_live}
use Rattle.membership_view.proofs.laws.one_is_live.Goals as goal

pub returns : goal.returns
returns c = one_is_live
