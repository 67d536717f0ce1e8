use Rattle.std.proofs.Common.{rules}
use Rattle.membership_view.proofs.views.Views.may_join.Goals as goal

pub returns-clause-joins : goal.returns-clause-joins
returns-clause-joins c = search rules

pub returns-clause-newest : goal.returns-clause-newest
returns-clause-newest c = search rules

pub returns-clause-room : goal.returns-clause-room
returns-clause-room c = search rules
