use Rattle.std.proofs.Common.{List, ℕ, subst}
use Rattle.console_threads.specs.Endings.{EndsBy}
use Rattle.console_threads.proofs.Endings.{fault_written, written_never_lacks}
use Rattle.console_threads.proofs.print.print.Goals as goal

pub returns-in-Stopped-clause-ends : goal.returns-in-Stopped-clause-ends
returns-in-Stopped-clause-ends g c =
    let journal = c.args.board.now.journal in
    let world = c.args.board.now.world in
    let end = c.args.lines.now.ended in
    subst (λ (text : List ℕ). EndsBy g.L.Charter.settings journal world text end (g.W.Sink.contents c.args.writer.now)
    (g.W.Sink.contents c.write.new.writer) c.write.result) c.deref-in-Stopped.ensures.value
    (fault_written g.W.Sink.writes g.W.Sink.contents g.L.Charter.settings journal world c.deref-in-Stopped.result.now c.in-Stopped.field-0
    end c.args.writer.now c.write.new.writer c.write.result c.in-Stopped.is c.write.ensures)

pub returns-in-Stopped-clause-lacking : goal.returns-in-Stopped-clause-lacking
returns-in-Stopped-clause-lacking g c =
    written_never_lacks g.W.Sink.writes g.W.Sink.contents c.deref-in-Stopped.result.now c.args.lines.now.ended c.args.writer.now
    c.write.new.writer c.write.result c.write.ensures
