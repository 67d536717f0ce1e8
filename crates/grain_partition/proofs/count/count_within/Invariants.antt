use Rattle.std.proofs.Common.{◌≡◌, true}
use Rattle.directory_rules.specs.Sight.{was_settled}
use Rattle.grain_partition.specs.Holdings.{tidied}
use Rattle.grain_partition.proofs.Counted.{AreCounted}
use Rattle.grain_partition.proofs.count.count_within.Given as goal

-- what is counted so far, and the rest is settled
abbrev pub invariant-walk : goal.invariant-walk
invariant-walk l = record {
  settled : was_settled l.pieces.entries l.rest ≡ true;
  counted : AreCounted l.hashing (tidied l.hashing l.pieces.entries) l.range l.rest l.count;
}

abbrev pub decreases-walk : goal.decreases-walk
decreases-walk l = l.rest.size
