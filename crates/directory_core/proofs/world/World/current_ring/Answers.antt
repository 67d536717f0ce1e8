use Rattle.std.proofs.Common.{rules}
use Rattle.directory_core.proofs.world.World.current_ring.Goals as goal

pub returns-in-Ok : goal.returns-in-Ok
returns-in-Ok c = search rules
