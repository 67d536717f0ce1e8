use Rattle.std.proofs.Common.{rules}
use Rattle.hash_ring.proofs.hashing.hash_text.Goals as goal

pub returns : goal.returns
returns c = search rules
