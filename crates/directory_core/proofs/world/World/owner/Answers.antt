use Rattle.std.proofs.Common.{rules}
use Rattle.directory_core.proofs.world.World.owner.Goals as goal

pub returns : goal.returns
returns c = search rules
