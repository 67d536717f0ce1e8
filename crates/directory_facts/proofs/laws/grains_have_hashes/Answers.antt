use Rattle.directory_facts.proofs.Hashes.{grains_have_hashes}
use Rattle.directory_facts.proofs.laws.grains_have_hashes.Goals as goal

pub returns : goal.returns
returns c = grains_have_hashes
