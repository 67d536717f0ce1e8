use Rattle.std.proofs.Common.{rules}
use Rattle.ring_range.proofs.text.RingRangeDisplay.fmt.Goals as goal

pub returns-clause-writes : goal.returns-clause-writes
returns-clause-writes c = search rules
