use Rattle.std.proofs.Common.{rules}
use Rattle.ring_range.proofs.range.RingRange.contains.Goals as goal

pub returns-clause-exact : goal.returns-clause-exact
returns-clause-exact c = search rules

pub returns-clause-member : goal.returns-clause-member
returns-clause-member c = search rules
