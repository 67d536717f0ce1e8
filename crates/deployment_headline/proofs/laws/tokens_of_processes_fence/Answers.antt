use Rattle.deployment_headline.proofs.TokensFence.{tokens_of_processes_fence}
use Rattle.deployment_headline.proofs.laws.tokens_of_processes_fence.Goals as goal

pub returns : goal.returns
returns c = tokens_of_processes_fence
