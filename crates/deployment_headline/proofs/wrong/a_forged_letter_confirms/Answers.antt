use Rattle.deployment_headline.proofs.Worked.{a_forged_letter_confirms}
use Rattle.deployment_headline.proofs.wrong.a_forged_letter_confirms.Goals as goal

pub returns : goal.returns
returns c = a_forged_letter_confirms
