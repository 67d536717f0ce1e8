use Rattle.directory_facts.proofs.Transfers.{pages_are_the_snapshot}
use Rattle.directory_facts.proofs.laws.pages_are_the_snapshot.Goals as goal

pub returns : goal.returns
returns c = pages_are_the_snapshot
