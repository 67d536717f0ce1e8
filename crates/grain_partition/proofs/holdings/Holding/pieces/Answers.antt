use Rattle.std.proofs.Common.{rules}
use Rattle.grain_partition.proofs.holdings.Holding.pieces.Goals as goal

pub returns-clause-rest : goal.returns-clause-rest
returns-clause-rest c = search rules
