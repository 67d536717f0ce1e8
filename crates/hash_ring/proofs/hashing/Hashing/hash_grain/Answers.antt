use Rattle.std.proofs.Common.{rules}
use Rattle.hash_ring.proofs.hashing.Hashing.hash_grain.Goals as goal

pub returns-in-Some : goal.returns-in-Some
returns-in-Some c = search rules
