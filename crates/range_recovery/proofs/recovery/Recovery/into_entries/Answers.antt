use Rattle.std.proofs.Common.{rules}
use Rattle.range_recovery.proofs.recovery.Recovery.into_entries.Goals as goal

pub returns : goal.returns
returns c = search rules
