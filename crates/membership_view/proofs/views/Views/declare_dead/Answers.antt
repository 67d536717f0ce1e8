use Rattle.std.proofs.Common.{rules}
use Rattle.membership_view.proofs.views.Views.declare_dead.Goals as goal

pub returns-in-Some-Dead-clause-dead : goal.returns-in-Some-Dead-clause-dead
returns-in-Some-Dead-clause-dead c = search rules
