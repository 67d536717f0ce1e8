use Rattle.std.proofs.Common.{rules}
use Rattle.script_rules.specs.Output.{performed}
use Rattle.console_command.proofs.commands.play_command.Goals as goal

pub returns-in-Owner-clause-performed : goal.returns-in-Owner-clause-performed
unfolding performed
returns-in-Owner-clause-performed c = search rules
