use Rattle.std.proofs.Common.{rules}
use Rattle.range_moves.proofs.arc.RingArc.moved.Goals as goal

pub returns : goal.returns
returns c = search rules
