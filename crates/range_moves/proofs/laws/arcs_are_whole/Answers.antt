-- The arcs are what they are said to be.
use Rattle.range_moves.proofs.Between.{arcs_whole}
use Rattle.range_moves.proofs.laws.arcs_are_whole.Goals as goal

pub returns : goal.returns
returns c = arcs_whole
