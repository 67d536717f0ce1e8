use Rattle.std.proofs.Common.{rules}
use Rattle.range_moves.proofs.compare.round_to.Goals as goal

pub returns : goal.returns
returns c = search rules
