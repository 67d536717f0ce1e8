use Rattle.silo_rules.proofs.Lawful.{stays_whole}
use Rattle.silo_rules.proofs.laws.silos_stay_whole.Goals as goal

pub returns : goal.returns
returns c = stays_whole
