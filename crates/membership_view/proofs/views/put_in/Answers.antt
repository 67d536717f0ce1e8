use Rattle.std.proofs.Common.{rules}
use Rattle.membership_view.proofs.views.put_in.Goals as goal

pub returns-clause-ok : goal.returns-clause-ok
returns-clause-ok c = search rules

pub returns-clause-replaced : goal.returns-clause-replaced
returns-clause-replaced c = search rules
