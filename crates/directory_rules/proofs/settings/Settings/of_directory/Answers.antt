use Rattle.std.proofs.Common.{rules}
use Rattle.directory_rules.proofs.settings.Settings.of_directory.Goals as goal

pub returns-clause-exact : goal.returns-clause-exact
returns-clause-exact c = search rules

pub returns-clause-in_range : goal.returns-clause-in_range
returns-clause-in_range c = search rules

pub invariant_of-result : goal.invariant_of-result
invariant_of-result c = search rules
