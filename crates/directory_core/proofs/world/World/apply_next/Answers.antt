use Rattle.std.proofs.Common.{rules}
use Rattle.directory_core.proofs.world.World.apply_next.Goals as goal

pub returns-in-Some-clause-memory : goal.returns-in-Some-clause-memory
returns-in-Some-clause-memory c = search rules

pub returns-in-Some-clause-told : goal.returns-in-Some-clause-told
returns-in-Some-clause-told c = search rules
