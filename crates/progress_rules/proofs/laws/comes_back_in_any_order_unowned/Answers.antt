use Rattle.progress_rules.proofs.BackInOrder.{comes_back_in_any_order_unowned}
use Rattle.progress_rules.proofs.laws.comes_back_in_any_order_unowned.Goals as goal

pub returns : goal.returns
returns c = comes_back_in_any_order_unowned
