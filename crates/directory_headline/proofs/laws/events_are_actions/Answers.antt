use Rattle.directory_headline.proofs.Theorems.{refined_after}
use Rattle.directory_headline.proofs.laws.events_are_actions.Goals as goal

pub returns : goal.returns
returns c = refined_after
