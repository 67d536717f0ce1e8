use Rattle.directory_facts.proofs.Throughout.{settled_both}
use Rattle.directory_facts.proofs.laws.was_settled_is_settled.Goals as goal

pub returns : goal.returns
returns c = settled_both
