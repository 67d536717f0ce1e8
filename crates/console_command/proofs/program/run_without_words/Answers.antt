use Rattle.console_command.proofs.Told.{refused_without, told_so}
use Rattle.console_command.proofs.program.run_without_words.Goals as goal

pub returns : goal.returns
returns g c = record {
  exit = refused_without c.args.kind c.in_default.not-OutOfMemory;
  told = told_so g.E.Sink.writes g.E.Sink.contents c.args.kind _ _ c.in_default.not-OutOfMemory c.tell.ensures;
}
