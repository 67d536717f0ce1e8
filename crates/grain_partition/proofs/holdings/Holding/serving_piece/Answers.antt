use Rattle.std.proofs.Common.{rules}
use Rattle.grain_partition.proofs.holdings.Holding.serving_piece.Goals as goal

pub returns : goal.returns
returns c = search rules
