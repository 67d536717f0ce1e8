use Rattle.console_command.proofs.Turns.{alone}
use Rattle.console_command.proofs.commands.happen.Goals as goal

pub returns-clause-performed : goal.returns-clause-performed
returns-clause-performed c = alone _ _ _ _ c.in_ok-take_turn.field-0 c.in_ok-take_turn.ensures.taken
