use Rattle.std.proofs.Common.{rules}
use Rattle.console_command.proofs.command_line.refusal.Goals as goal

pub returns-in-OutOfMemory : goal.returns-in-OutOfMemory
returns-in-OutOfMemory c = search rules
