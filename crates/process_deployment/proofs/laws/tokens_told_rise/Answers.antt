use Rattle.process_deployment.proofs.TokensOfLines.{tokens_told_rise}
use Rattle.process_deployment.proofs.Themselves.{written_read_as_themselves}
use Rattle.process_deployment.proofs.laws.tokens_told_rise.Goals as goal

pub returns : goal.returns
returns c = tokens_told_rise written_read_as_themselves
