use Rattle.std.proofs.Common.{rules}
use Rattle.grain_partition.proofs.holdings.Holding.piece_at.Goals as goal

pub returns : goal.returns
returns c = search rules
