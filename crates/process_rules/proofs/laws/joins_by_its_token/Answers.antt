use Rattle.process_rules.proofs.Joins.{joins_by_its_token}
use Rattle.process_rules.proofs.laws.joins_by_its_token.Goals as goal

pub returns : goal.returns
returns c = joins_by_its_token
