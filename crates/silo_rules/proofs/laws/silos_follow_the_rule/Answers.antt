use Rattle.silo_rules.proofs.Lawful.{follows_the_rule}
use Rattle.silo_rules.proofs.laws.silos_follow_the_rule.Goals as goal

pub returns : goal.returns
returns c = follows_the_rule
