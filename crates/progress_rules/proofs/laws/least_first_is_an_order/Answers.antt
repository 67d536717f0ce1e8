use Rattle.progress_rules.proofs.LeastFirst.{least_first_is_an_order}
use Rattle.progress_rules.proofs.laws.least_first_is_an_order.Goals as goal

pub returns : goal.returns
returns c = least_first_is_an_order
