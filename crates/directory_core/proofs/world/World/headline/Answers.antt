use Rattle.directory_core.proofs.Made.{headline_of, plain_of_all, told_rightly}
use Rattle.directory_core.proofs.world.World.headline.Goals as goal

pub returns-clause-headline : goal.returns-clause-headline
returns-clause-headline c = headline_of c.args.self.now c.whole.ensures

pub returns-clause-right : goal.returns-clause-right
returns-clause-right c = told_rightly c.args.self.now c.whole.ensures

pub returns-clause-plain : goal.returns-clause-plain
returns-clause-plain c = plain_of_all c.args.self.now c.whole.ensures
