use Rattle.directory_rules.specs.EventModel.{event_of}
use Rattle.directory_core.proofs.Runs.{moves_by}
use Rattle.directory_core.proofs.world.World.tell_next.Goals as goal

pub returns-in_err-this-clause-plain : goal.returns-in_err-this-clause-plain
returns-in_err-this-clause-plain c = moves_by c.args.self.now (event_of c.args.event.now) c.headline.ensures.plain c.in_range.ensures

pub returns-in_err-push-clause-plain : goal.returns-in_err-push-clause-plain
returns-in_err-push-clause-plain c = moves_by c.args.self.now (event_of c.args.event.now) c.headline.ensures.plain c.in_range.ensures

pub returns-clause-plain : goal.returns-clause-plain
returns-clause-plain c = moves_by c.args.self.now (event_of c.args.event.now) c.headline.ensures.plain c.in_range.ensures
