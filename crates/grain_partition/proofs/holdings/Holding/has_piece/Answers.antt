use Rattle.std.proofs.Common.{rules}
use Rattle.grain_partition.proofs.holdings.Holding.has_piece.Goals as goal

pub returns-in-Some : goal.returns-in-Some
returns-in-Some c = search rules
