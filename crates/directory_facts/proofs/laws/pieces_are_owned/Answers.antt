use Rattle.directory_facts.proofs.Lawful.{pieces_are_owned}
use Rattle.directory_facts.proofs.laws.pieces_are_owned.Goals as goal

pub returns : goal.returns
returns c = pieces_are_owned
