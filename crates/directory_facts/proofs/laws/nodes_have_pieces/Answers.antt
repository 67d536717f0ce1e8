use Rattle.directory_facts.proofs.Lawful.{nodes_have_pieces}
use Rattle.directory_facts.proofs.laws.nodes_have_pieces.Goals as goal

pub returns : goal.returns
returns c = nodes_have_pieces
