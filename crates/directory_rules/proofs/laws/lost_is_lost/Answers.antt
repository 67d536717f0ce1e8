use Rattle.directory_rules.proofs.Lost.{lost_after}
use Rattle.directory_rules.proofs.laws.lost_is_lost.Goals as goal

pub returns : goal.returns
returns c = lost_after
