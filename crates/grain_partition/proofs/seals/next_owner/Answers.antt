use Rattle.std.proofs.Common.{rules}
use Rattle.grain_partition.proofs.seals.next_owner.Goals as goal

pub returns-clause-exact : goal.returns-clause-exact
returns-clause-exact c = search rules
