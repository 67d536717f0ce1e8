use Rattle.progress_rules.proofs.Computed.{comes_back_alone}
use Rattle.progress_rules.proofs.wrong.comes_back_alone.Goals as goal

pub returns : goal.returns
returns c = comes_back_alone
