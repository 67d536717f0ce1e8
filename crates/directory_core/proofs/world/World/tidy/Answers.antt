use Rattle.directory_core.proofs.Tidied.{tidy_node}
use Rattle.directory_core.proofs.world.World.tidy.Goals as goal

pub returns : goal.returns
returns c = tidy_node c.args.self.now c.whole.ensures c.args.silo.now
