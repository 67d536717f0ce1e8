use Rattle.std.proofs.Common.{rules}
use Rattle.ring_range.specs.Meet.{meet_of}
use Rattle.ring_range.proofs.range.RingRange.common_parts.Goals as goal

pub returns-then-at_start-eq0-clause-parts : goal.returns-then-at_start-eq0-clause-parts
unfolding meet_of
returns-then-at_start-eq0-clause-parts c = search rules

pub returns-else-at_start-eq0-clause-parts : goal.returns-else-at_start-eq0-clause-parts
unfolding meet_of
returns-else-at_start-eq0-clause-parts c = search rules
