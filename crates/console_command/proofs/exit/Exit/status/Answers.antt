use Rattle.std.proofs.Common.{rules}
use Rattle.console_command.proofs.exit.Exit.status.Goals as goal

pub returns-in-Played : goal.returns-in-Played
returns-in-Played c = search rules

pub returns-in-Refused : goal.returns-in-Refused
returns-in-Refused c = search rules
