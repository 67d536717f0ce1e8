use Rattle.std.proofs.Common.{rules}
use Rattle.hash_ring.proofs.places.Places.is_ready_for.Goals as goal

pub returns-then-not-is_active : goal.returns-then-not-is_active
returns-then-not-is_active c = search rules

pub returns-else-not-is_active : goal.returns-else-not-is_active
returns-else-not-is_active c = search rules
