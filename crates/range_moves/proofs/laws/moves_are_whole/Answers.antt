-- The moves are what they are said to be.
use Rattle.range_moves.proofs.MovesOfArcs.{moves_whole}
use Rattle.range_moves.proofs.laws.moves_are_whole.Goals as goal

pub returns : goal.returns
returns c = moves_whole
