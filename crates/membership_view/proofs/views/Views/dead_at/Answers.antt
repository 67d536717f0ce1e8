use Rattle.std.proofs.Common.{rules}
use Rattle.membership_view.proofs.views.Views.dead_at.Goals as goal

pub returns : goal.returns
returns c = search rules
