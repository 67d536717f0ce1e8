use Rattle.directory_headline.proofs.Theorems.{headline_after}
use Rattle.directory_headline.proofs.laws.headline_holds.Goals as goal

pub returns : goal.returns
returns c = headline_after
