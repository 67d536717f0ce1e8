use Rattle.std.proofs.Common.{rules}
use Rattle.grain_partition.proofs.holdings.Holding.answer.Goals as goal

pub returns-in-Ok : goal.returns-in-Ok
returns-in-Ok c = search rules
