use Rattle.directory_rules.proofs.Sights.{sights_are_owned}
use Rattle.directory_rules.proofs.laws.pieces_are_owned.Goals as goal

pub returns : goal.returns
returns c = sights_are_owned
