use Rattle.directory_facts.proofs.Lawful.{events_name_hashes}
use Rattle.directory_facts.proofs.laws.events_name_hashes.Goals as goal

pub returns : goal.returns
returns c = events_name_hashes
