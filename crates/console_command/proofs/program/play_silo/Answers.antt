use Rattle.std.proofs.Common.{rules}
use Rattle.console_command.proofs.program.play_silo.Goals as goal

pub returns-clause-plays : goal.returns-clause-plays
returns-clause-plays g c = search rules

pub returns-clause-in_turn : goal.returns-clause-in_turn
returns-clause-in_turn g c = search rules
