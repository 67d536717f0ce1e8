use Rattle.std.proofs.Common.{rules}
use Rattle.membership_view.proofs.views.Views.rows.Goals as goal

pub returns-clause-rest : goal.returns-clause-rest
returns-clause-rest c = search rules
