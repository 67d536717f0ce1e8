use Rattle.directory_rules.proofs.Seals.{all_handed}
use Rattle.directory_rules.proofs.laws.sealed_was_settled.Goals as goal

pub returns : goal.returns
returns c = all_handed
