use Rattle.process_deployment.proofs.JoinedBy.{processes_join_by_their_tokens}
use Rattle.process_deployment.proofs.laws.processes_join_by_their_tokens.Goals as goal

pub returns : goal.returns
returns c = processes_join_by_their_tokens
