use Rattle.std.proofs.Common.{rules}
use Rattle.hash_ring.proofs.places.Places.is_added.Goals as goal

pub returns : goal.returns
returns c = search rules
