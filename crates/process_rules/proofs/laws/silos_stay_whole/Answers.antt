use Rattle.process_rules.proofs.StaysWhole.{line_whole}
use Rattle.process_rules.proofs.laws.silos_stay_whole.Goals as goal

pub returns : goal.returns
returns c = line_whole
