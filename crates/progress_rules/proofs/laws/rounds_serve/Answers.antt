use Rattle.progress_rules.proofs.BackInOrder.{rounds_serve}
use Rattle.progress_rules.proofs.laws.rounds_serve.Goals as goal

pub returns : goal.returns
returns c = rounds_serve
