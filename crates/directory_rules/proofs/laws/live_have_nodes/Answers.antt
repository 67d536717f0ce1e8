use Rattle.directory_rules.proofs.Peopled.{peopled_after}
use Rattle.directory_rules.proofs.laws.live_have_nodes.Goals as goal

pub returns : goal.returns
returns c = peopled_after
