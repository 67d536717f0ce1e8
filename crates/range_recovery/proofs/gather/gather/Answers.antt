use Rattle.std.proofs.Common.{rules}
use Rattle.range_recovery.proofs.gather.gather.Goals as goal

pub returns-in-Err-clause-unchanged : goal.returns-in-Err-clause-unchanged
returns-in-Err-clause-unchanged c = search rules
