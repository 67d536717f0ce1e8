use Rattle.directory_facts.proofs.Lawful.{names_are_in_range}
use Rattle.directory_facts.proofs.laws.names_are_in_range.Goals as goal

pub returns : goal.returns
returns c = names_are_in_range
