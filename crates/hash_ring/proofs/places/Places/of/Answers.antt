use Rattle.std.proofs.Common.{rules}
use Rattle.hash_ring.proofs.places.Places.of.Goals as goal

pub returns : goal.returns
returns c = search rules
