use Rattle.std.proofs.Common.{◌≡◌, true}
use Rattle.directory_rules.specs.Sight.{was_settled}
use Rattle.grain_partition.proofs.EntriesByWalk.{IsGathered}
use Rattle.grain_partition.proofs.entries.met_within.Given as goal

-- what is there so far, and the rest is settled
abbrev pub invariant-walk : goal.invariant-walk
invariant-walk l = record {
  hashing_is : l.within.hashing ≡ l.fn.hashing;
  settled : was_settled l.pieces.entries l.rest ≡ true;
  gathered : IsGathered l.fn.hashing l.pieces.entries l.range l.rest l.within.entries;
}

abbrev pub decreases-walk : goal.decreases-walk
decreases-walk l = l.rest.size
