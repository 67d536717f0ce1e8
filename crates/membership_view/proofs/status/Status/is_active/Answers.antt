use Rattle.std.proofs.Common.{rules}
use Rattle.membership_view.proofs.status.Status.is_active.Goals as goal

pub returns-in-Leaving : goal.returns-in-Leaving
returns-in-Leaving c = search rules
