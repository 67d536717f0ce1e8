use Rattle.script_rules.proofs.Settles.{settle_suffices}
use Rattle.script_rules.proofs.laws.settle_suffices.Goals as goal

pub returns : goal.returns
returns c = settle_suffices
