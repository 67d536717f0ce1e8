use Rattle.process_rules.proofs.Beginnings.{beginning_begins}
use Rattle.process_rules.proofs.laws.beginnings_begin.Goals as goal

pub returns : goal.returns
returns c = λ settings silo token front more. beginning_begins token settings silo front more
