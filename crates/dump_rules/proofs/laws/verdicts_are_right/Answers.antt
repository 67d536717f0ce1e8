use Rattle.dump_rules.proofs.RightDumps.{verdict_is, none_is_right}
use Rattle.dump_rules.proofs.laws.verdicts_are_right.Goals as goal

pub returns : goal.returns
returns c = record { answers = verdict_is; none = none_is_right }
