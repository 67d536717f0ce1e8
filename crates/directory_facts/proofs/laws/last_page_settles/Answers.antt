use Rattle.directory_facts.proofs.Transfers.{last_page_settles}
use Rattle.directory_facts.proofs.laws.last_page_settles.Goals as goal

pub returns : goal.returns
returns c = last_page_settles
