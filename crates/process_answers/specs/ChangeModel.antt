-- How a change that the code tells a silo is a change of membership.
use Rattle.directory_rules.specs.Membership as rule
use Rattle.process_answers.specs.declared.changes.Change.{Change}
use Rattle.process_answers.specs.declared.changes.Change.TheVariants.{Join, Leave, Die}

abbrev pub change_of : Change → rule.Change
change_of (Join silo places) = rule.Join silo.now places.now
change_of (Leave silo) = rule.Leave silo.now
change_of (Die silo) = rule.Die silo.now
