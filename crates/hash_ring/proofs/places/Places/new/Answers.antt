use Rattle.std.proofs.Common.{rules}
use Rattle.hash_ring.proofs.places.Places.new.Goals as goal

pub returns-clause-point_count : goal.returns-clause-point_count
returns-clause-point_count c = search rules

pub invariant_of-result : goal.invariant_of-result
invariant_of-result c = search rules
