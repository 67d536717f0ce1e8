use Rattle.std.proofs.Common.{rules}
use Rattle.console_command.proofs.clap_command.activations.Goals as goal

pub returns-clause-rule : goal.returns-clause-rule
returns-clause-rule c = search rules
