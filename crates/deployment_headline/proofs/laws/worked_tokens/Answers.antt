use Rattle.deployment_headline.proofs.Worked.{worked_tokens}
use Rattle.deployment_headline.proofs.laws.worked_tokens.Goals as goal

pub returns : goal.returns
returns c = worked_tokens
