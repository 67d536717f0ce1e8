use Rattle.dump_headline.proofs.Theorem.{rightly_told}
use Rattle.dump_headline.proofs.laws.dumps_are_right.Goals as goal

pub returns : goal.returns
returns c = rightly_told
