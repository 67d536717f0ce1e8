use Rattle.std.proofs.Common.{rules}
use Rattle.hash_ring.proofs.places.Places.add.Goals as goal

pub admit-requires-clause-absent : goal.admit-requires-clause-absent
admit-requires-clause-absent c = search rules

pub returns-in-Ok-clause-added : goal.returns-in-Ok-clause-added
returns-in-Ok-clause-added c = search rules

pub returns-in-Err-clause-memory : goal.returns-in-Err-clause-memory
returns-in-Err-clause-memory c = search rules
