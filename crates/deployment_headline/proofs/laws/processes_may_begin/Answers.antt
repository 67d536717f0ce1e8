use Rattle.deployment_headline.proofs.MayBegin.{processes_may_begin}
use Rattle.deployment_headline.proofs.laws.processes_may_begin.Goals as goal

pub returns : goal.returns
returns c = processes_may_begin
