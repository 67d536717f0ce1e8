use Rattle.dump_rules.specs.Judged.{judged_text}
use Rattle.console_command.proofs.Said.{is_said}
use Rattle.console_command.proofs.judgement.judge.Goals as goal

pub returns-in-Ok-clause-calls : goal.returns-in-Ok-clause-calls
returns-in-Ok-clause-calls g c =
    is_said g.R.Source.reads g.W.Sink.writes (c.args.reader.now, c.args.writer.now) (c.read_all.new.reader, c.tell.new.writer)
    (judged_text c.deref.result.now).text c.tell.result
    c.in-Ok.ensures.calls c.tell.ensures.calls
