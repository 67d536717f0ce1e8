use Rattle.std.proofs.Common.{rules}
use Rattle.silo_placement.proofs.placement.is_active_in.Goals as goal

pub returns-in-Some : goal.returns-in-Some
returns-in-Some c = search rules
