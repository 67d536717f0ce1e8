use Rattle.progress_rules.proofs.Computed.{bound_reached}
use Rattle.progress_rules.proofs.worked.bound_is_reached.Goals as goal

pub returns : goal.returns
returns c = bound_reached
