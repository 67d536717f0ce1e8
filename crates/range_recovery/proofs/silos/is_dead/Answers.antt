use Rattle.std.proofs.Common.{rules}
use Rattle.range_recovery.proofs.silos.is_dead.Goals as goal

pub returns-in-Dead : goal.returns-in-Dead
returns-in-Dead c = search rules
