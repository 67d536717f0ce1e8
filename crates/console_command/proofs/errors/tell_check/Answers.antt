use Rattle.std.proofs.Common.{arith, rules}
use Rattle.console_command.specs.declared.exit.Exit.TheVariants.{Checked}
use Rattle.console_command.proofs.Told.{nothing_told}
use Rattle.console_command.proofs.errors.tell_check.Goals as goal

pub returns-in-Right : goal.returns-in-Right
returns-in-Right g c =
    nothing_told g.E.Sink.writes g.E.Sink.contents (Checked c.args.checked) c.args.errors.now (first_of (search rules, grind arith))
