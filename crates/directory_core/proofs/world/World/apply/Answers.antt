use Rattle.directory_rules.specs.EventModel.{event_of}
use Rattle.directory_core.specs.Applied.{excused}
use Rattle.directory_core.specs.Numbers.{event_refusal_number}
use Rattle.directory_core.proofs.Made.{further, plain_of_all}
use Rattle.directory_core.proofs.Runs.{moves_by, told_plainly}
use Rattle.directory_core.proofs.world.World.apply.Goals as goal

pub follow-told-requires : goal.follow-told-requires
follow-told-requires c = record { leaves = further c.args.self.now (event_of c.args.event.now) c.whole.ensures c.in_range.ensures }

pub returns-clause-plain : goal.returns-clause-plain
returns-clause-plain c =
    told_plainly event_refusal_number (excused c.args.event.now) c.args.self.now _ (event_of c.args.event.now) c.follow-told.result
    (moves_by c.args.self.now (event_of c.args.event.now) (plain_of_all c.args.self.now c.whole.ensures) c.in_range.ensures)
    c.follow-told.ensures.told
