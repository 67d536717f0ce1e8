use Rattle.std.proofs.Common.{rules}
use Rattle.hash_ring.proofs.advance.follows.Goals as goal

pub returns-then-version-earlier : goal.returns-then-version-earlier
returns-then-version-earlier c = search rules
