use Rattle.progress_rules.proofs.Computed.{not_asked_on}
use Rattle.progress_rules.proofs.wrong.page_is_not_asked_on.Goals as goal

pub returns : goal.returns
returns c = not_asked_on
