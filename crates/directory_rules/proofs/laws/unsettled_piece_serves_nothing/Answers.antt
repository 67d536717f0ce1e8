use Rattle.directory_rules.proofs.Retried.{unsettled_retries}
use Rattle.directory_rules.proofs.laws.unsettled_piece_serves_nothing.Goals as goal

pub returns : goal.returns
returns c = unsettled_retries
