use Rattle.std.proofs.Common.{rules}
use Rattle.hash_ring.proofs.places.may_be_given.Goals as goal

pub returns-in-Stated : goal.returns-in-Stated
returns-in-Stated c = search rules
