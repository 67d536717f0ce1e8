-- Nothing cuts the circle.
use Rattle.range_moves.proofs.OnePlace.{one_arc}
use Rattle.range_moves.proofs.laws.one_place_is_one_arc.Goals as goal

pub returns : goal.returns
returns c = one_arc
