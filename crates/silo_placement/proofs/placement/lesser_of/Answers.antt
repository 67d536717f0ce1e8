use Rattle.std.proofs.Common.{rules}
use Rattle.silo_placement.proofs.placement.lesser_of.Goals as goal

pub returns-in_default : goal.returns-in_default
returns-in_default c = search rules
