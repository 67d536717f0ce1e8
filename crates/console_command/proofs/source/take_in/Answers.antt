use Rattle.std.proofs.Common.{rules}
use Rattle.console_command.proofs.source.take_in.Goals as goal

pub returns-clause-fits : goal.returns-clause-fits
returns-clause-fits c = search rules
