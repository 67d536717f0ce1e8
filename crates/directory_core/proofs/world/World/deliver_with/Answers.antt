use Rattle.std.specs.Prelude.{IsOk}
use Rattle.directory_rules.specs.Event.{Deliver}
use Rattle.directory_core.specs.Delivery.{undelivered_number}
use Rattle.directory_core.proofs.Made.{further, plain_of_all}
use Rattle.directory_core.proofs.Runs.{moves_by, told_plainly}
use Rattle.directory_core.proofs.world.World.deliver_with.Goals as goal

pub follow_with-told-requires-clause-leaves : goal.follow_with-told-requires-clause-leaves
follow_with-told-requires-clause-leaves c = further c.args.self.now (Deliver c.args.number) c.whole.ensures tt

pub returns-clause-plain : goal.returns-clause-plain
returns-clause-plain c =
    told_plainly undelivered_number IsOk c.args.self.now _ (Deliver c.args.number) c.follow_with-told.result
    (moves_by c.args.self.now (Deliver c.args.number) (plain_of_all c.args.self.now c.whole.ensures) tt) c.follow_with-told.ensures.told
