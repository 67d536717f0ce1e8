use Rattle.process_rules.proofs.Lines.{end_is_final}
use Rattle.process_rules.proofs.laws.ends_are_final.Goals as goal

pub returns : goal.returns
returns c = end_is_final
