use Rattle.std.proofs.Common.{rules}
use Rattle.console_command.proofs.judgement.tell.Goals as goal

pub returns : goal.returns
returns g c = search rules
