use Rattle.dump_rules.proofs.TurningHashes.{Decides-has_its_ranges}
use Rattle.dump_rules.proofs.laws.turning_hashes_suffice.Goals as goal

pub returns : goal.returns
returns c = Decides-has_its_ranges
