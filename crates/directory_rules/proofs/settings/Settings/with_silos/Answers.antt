use Rattle.std.proofs.Common.{rules}
use Rattle.directory_rules.proofs.settings.Settings.with_silos.Goals as goal

pub returns-then-silos-eq0-clause-in_range : goal.returns-then-silos-eq0-clause-in_range
returns-then-silos-eq0-clause-in_range c = search rules

pub returns-clause-exact : goal.returns-clause-exact
returns-clause-exact c = search rules
