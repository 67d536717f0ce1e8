use Rattle.directory_facts.proofs.Lawful.{nodes_see}
use Rattle.directory_facts.proofs.laws.nodes_see_their_versions.Goals as goal

pub returns : goal.returns
returns c = nodes_see
