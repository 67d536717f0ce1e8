use Rattle.std.proofs.Common.{rules}
use Rattle.console_command.specs.declared.exit.Exit.TheVariants.{Played}
use Rattle.console_command.proofs.Told.{all_played, nothing_told}
use Rattle.console_command.proofs.errors.tell_end.Goals as goal

pub returns-in-AtEnd : goal.returns-in-AtEnd
returns-in-AtEnd g c =
    nothing_told g.E.Sink.writes g.E.Sink.contents (Played c.args.ended) c.args.errors.now (all_played c.args.ended c.in-AtEnd.is)

pub returns-in-Stopped : goal.returns-in-Stopped
returns-in-Stopped g c = search rules
