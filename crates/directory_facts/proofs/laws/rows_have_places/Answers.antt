use Rattle.directory_facts.proofs.Lawful.{rows_have_places}
use Rattle.directory_facts.proofs.laws.rows_have_places.Goals as goal

pub returns : goal.returns
returns c = rows_have_places
