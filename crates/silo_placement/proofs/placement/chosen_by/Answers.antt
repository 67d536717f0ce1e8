use Rattle.std.proofs.Common.{rules}
use Rattle.silo_placement.proofs.placement.chosen_by.Goals as goal

pub returns-in-HashBased : goal.returns-in-HashBased
returns-in-HashBased c = search rules
