use Rattle.progress_rules.proofs.Computed.{comes_back_by_pages}
use Rattle.progress_rules.proofs.wrong.comes_back_by_pages.Goals as goal

pub returns : goal.returns
returns c = comes_back_by_pages
