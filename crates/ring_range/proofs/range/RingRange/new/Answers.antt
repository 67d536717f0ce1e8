use Rattle.std.proofs.Common.{rules}
use Rattle.ring_range.proofs.range.RingRange.new.Goals as goal

pub returns-clause-too_large : goal.returns-clause-too_large
returns-clause-too_large c = search rules

pub invariant_of-result : goal.invariant_of-result
invariant_of-result c = search rules
