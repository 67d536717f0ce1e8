use Rattle.process_rules.proofs.LinesAgain.{line_again}
use Rattle.process_rules.proofs.laws.lines_say_their_letters.Goals as goal

pub returns : goal.returns
returns c = line_again
