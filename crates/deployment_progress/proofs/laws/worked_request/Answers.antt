use Rattle.deployment_progress.proofs.WorkedRequest.{worked_request}
use Rattle.deployment_progress.proofs.laws.worked_request.Goals as goal

pub returns : goal.returns
returns c = worked_request
