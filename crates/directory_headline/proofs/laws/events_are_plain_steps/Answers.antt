use Rattle.directory_headline.proofs.Theorems.{plain_after}
use Rattle.directory_headline.proofs.laws.events_are_plain_steps.Goals as goal

pub returns : goal.returns
returns c = plain_after
