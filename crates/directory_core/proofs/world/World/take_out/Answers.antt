use Rattle.directory_core.specs.WorldModel.{world_of}
use Rattle.directory_core.proofs.Kept.{kept_loss}
use Rattle.directory_core.proofs.world.World.take_out.Goals as goal

pub invariant_of-self : goal.invariant_of-self
invariant_of-self c = record {
  world = kept_loss (world_of c.self.inside) c.args.self.now c.self.view_is c.args.number c.lose.new.self c.requires.leaves c.lose.ensures;
  shared = c.self.invariant.shared;
}
