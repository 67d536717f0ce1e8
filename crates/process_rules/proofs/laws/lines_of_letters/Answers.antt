use Rattle.ring_range.specs.Range.{IsRange}
use Rattle.process_rules.specs.Told.{IsNumber}
use Rattle.process_rules.proofs.LineWords.{line_words}
use Rattle.process_rules.proofs.laws.lines_of_letters.Goals as goal

pub returns : goal.returns
returns c = line_words IsNumber IsRange
