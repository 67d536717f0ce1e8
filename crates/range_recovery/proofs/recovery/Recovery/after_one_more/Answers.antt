use Rattle.std.proofs.Common.{rules}
use Rattle.range_recovery.proofs.recovery.Recovery.after_one_more.Goals as goal

pub returns-else-missing-eq1 : goal.returns-else-missing-eq1
returns-else-missing-eq1 c = search rules
