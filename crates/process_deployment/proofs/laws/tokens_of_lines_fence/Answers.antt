use Rattle.process_deployment.proofs.TokensOfLines.{tokens_of_lines_fence}
use Rattle.process_deployment.proofs.Themselves.{written_read_as_themselves}
use Rattle.process_deployment.proofs.laws.tokens_of_lines_fence.Goals as goal

pub returns : goal.returns
returns c = tokens_of_lines_fence written_read_as_themselves
