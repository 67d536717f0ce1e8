use Rattle.std.proofs.Common.{rules}
use Rattle.console_command.proofs.line_error.CommandLineError.is_request.Goals as goal

pub returns-in-DisplayHelp : goal.returns-in-DisplayHelp
returns-in-DisplayHelp c = search rules
