use Rattle.std.proofs.Common.{rules}
use Rattle.membership_view.proofs.views.Views.view.Goals as goal

pub returns-clause-exact : goal.returns-clause-exact
returns-clause-exact c = search rules
