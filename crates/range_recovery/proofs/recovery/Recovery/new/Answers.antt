use Rattle.std.proofs.Common.{rules}
use Rattle.range_recovery.proofs.recovery.Recovery.new.Goals as goal

pub returns : goal.returns
returns c = search rules
