use Rattle.std.proofs.Common.{rules}
use Rattle.membership_view.proofs.views.Views.leave.Goals as goal

pub begin_to_leave-requires : goal.begin_to_leave-requires
begin_to_leave-requires c = search rules

pub returns-in-Some-Active-clause-version : goal.returns-in-Some-Active-clause-version
returns-in-Some-Active-clause-version c = search rules
