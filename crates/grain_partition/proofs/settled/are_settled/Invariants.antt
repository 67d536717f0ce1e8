use Rattle.std.proofs.Common.{◌≡◌}
use Rattle.directory_rules.specs.Sight.{was_settled}
use Rattle.grain_partition.proofs.settled.are_settled.Given as goal

-- what was seen so far is settled
abbrev pub invariant-walk : goal.invariant-walk
invariant-walk l = was_settled l.pieces.entries l.range ≡ was_settled l.pieces.entries l.rest

abbrev pub decreases-walk : goal.decreases-walk
decreases-walk l = l.rest.size
