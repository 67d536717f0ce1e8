use Rattle.std.proofs.Common.{rules}
use Rattle.grain_partition.proofs.served.turn_at.Goals as goal

pub returns-clause-turned : goal.returns-clause-turned
returns-clause-turned c = search rules
