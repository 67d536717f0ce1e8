use Rattle.std.proofs.Common.{subst, sym}
use Rattle.console_threads.specs.Endings.{Tells}
use Rattle.console_threads.proofs.Endings.{world_written}
use Rattle.console_threads.proofs.print.print_world.Goals as goal

pub returns-in-Ok-clause-ends : goal.returns-in-Ok-clause-ends
returns-in-Ok-clause-ends g c =
    world_written g.W.Sink.writes g.W.Sink.contents g.L.Charter.settings c.args.board.now.journal c.args.board.now.world c.args.printed.now
    c.deref.result.now c.args.writer.now c.write.new.writer c.write.result
    (subst (Tells g.L.Charter.settings c.args.board.now.journal c.args.board.now.world) (sym c.deref.ensures.value) c.in-Ok.ensures)
    c.write.ensures
