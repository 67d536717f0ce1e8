use Rattle.std.proofs.Common.{rules}
use Rattle.silo_placement.proofs.placement.by_hash.Goals as goal

pub returns : goal.returns
returns c = search rules
