use Rattle.directory_rules.proofs.Numbered.{numbers_are_distinct}
use Rattle.directory_rules.proofs.laws.numbers_are_distinct.Goals as goal

pub returns : goal.returns
returns c = numbers_are_distinct
