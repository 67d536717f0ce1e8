use Rattle.progress_rules.proofs.Computed.{pages_computed}
use Rattle.progress_rules.proofs.worked.pages_reach_the_bound.Goals as goal

pub returns : goal.returns
returns c = pages_computed
