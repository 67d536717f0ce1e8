use Rattle.progress_rules.proofs.InOrder.{pieces_come_back_in_any_order}
use Rattle.progress_rules.proofs.laws.pieces_come_back_in_any_order.Goals as goal

pub returns : goal.returns
returns c = pieces_come_back_in_any_order
