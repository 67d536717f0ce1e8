use Rattle.progress_rules.proofs.Computed.{reversed_computed}
use Rattle.progress_rules.proofs.worked.reversed_needs_two.Goals as goal

pub returns : goal.returns
returns c = reversed_computed
