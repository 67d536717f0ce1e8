use Rattle.process_rules.proofs.Lines.{fault_goes_on}
use Rattle.process_rules.proofs.laws.faults_change_nothing.Goals as goal

pub returns : goal.returns
returns c = fault_goes_on
