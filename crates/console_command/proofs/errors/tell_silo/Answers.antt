use Rattle.std.proofs.Common.{arith, rules}
use Rattle.console_command.specs.declared.exit.Exit.TheVariants.{Silo}
use Rattle.console_command.proofs.Told.{nothing_told}
use Rattle.console_command.proofs.errors.tell_silo.Goals as goal

pub returns-in-AtEnd : goal.returns-in-AtEnd
returns-in-AtEnd g c =
    nothing_told g.E.Sink.writes g.E.Sink.contents (Silo c.args.ended) c.args.errors.now (first_of (search rules, grind arith))
