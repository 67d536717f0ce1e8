use Rattle.console_command.proofs.Counted.{counted_at, counted_none}
use Rattle.console_command.proofs.place.held_count.Goals as goal

pub returns-in-Some : goal.returns-in-Some
returns-in-Some c =
    counted_at c.args.world.now c.args.silo.now c.in-Some.node.now c.host.result.now c.held_count.result c.in-Some.ensures c.host.ensures
    c.held_count.ensures

pub returns-in-None : goal.returns-in-None
returns-in-None c = counted_none c.args.world.now c.args.silo.now c.in-None.ensures
