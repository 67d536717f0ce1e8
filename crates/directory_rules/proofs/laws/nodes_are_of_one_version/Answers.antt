use Rattle.directory_rules.proofs.Versions.{one_version}
use Rattle.directory_rules.proofs.laws.nodes_are_of_one_version.Goals as goal

pub returns : goal.returns
returns c = one_version
