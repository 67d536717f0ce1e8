use Rattle.directory_facts.proofs.Lawful.{letters_are_own}
use Rattle.directory_facts.proofs.laws.letters_are_own.Goals as goal

pub returns : goal.returns
returns c = letters_are_own
