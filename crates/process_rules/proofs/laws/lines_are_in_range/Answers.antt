use Rattle.process_rules.proofs.LinesInRange.{line_in_range}
use Rattle.process_rules.proofs.laws.lines_are_in_range.Goals as goal

pub returns : goal.returns
returns c = line_in_range
