use Rattle.directory_facts.proofs.Lawful.{settings_stay, nodes_are_own}
use Rattle.directory_facts.proofs.laws.nodes_are_own.Goals as goal

pub returns : goal.returns
returns c = record { settings = settings_stay; nodes = nodes_are_own }
