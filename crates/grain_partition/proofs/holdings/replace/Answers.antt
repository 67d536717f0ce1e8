use Rattle.std.proofs.Common.{rules}
use Rattle.grain_partition.proofs.holdings.replace.Goals as goal

pub returns : goal.returns
returns c = search rules
