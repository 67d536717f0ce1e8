use Rattle.directory_facts.proofs.Lawful.{counts_are_apart}
use Rattle.directory_facts.proofs.laws.counts_are_apart.Goals as goal

pub returns : goal.returns
returns c = counts_are_apart
