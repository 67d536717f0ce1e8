use Rattle.deployment_headline.proofs.Worked.{two_sequences_are_told}
use Rattle.deployment_headline.proofs.wrong.two_sequences_are_told.Goals as goal

pub returns : goal.returns
returns c = two_sequences_are_told
