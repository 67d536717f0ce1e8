use Rattle.std.proofs.Common.{◌≡◌, true}
use Rattle.directory_rules.specs.Sight.{was_settled}
use Rattle.grain_partition.proofs.ListsByWalk.{AreListed}
use Rattle.grain_partition.proofs.listed.met_listed.Given as goal

-- what is listed so far, and the rest is settled
abbrev pub invariant-walk : goal.invariant-walk
invariant-walk l = record {
  settled : was_settled l.pieces.entries l.rest ≡ true;
  listed : AreListed l.hashing l.view l.pieces.entries l.range l.rest l.entries.items;
}

abbrev pub decreases-walk : goal.decreases-walk
decreases-walk l = l.rest.size
