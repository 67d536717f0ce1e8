use Rattle.std.proofs.Common.{rules}
use Rattle.range_recovery.proofs.recovery.Recovery.is_asked_for.Goals as goal

pub returns-then-version-self : goal.returns-then-version-self
returns-then-version-self c = search rules
