use Rattle.std.proofs.Common.{◌≡◌, ◌++◌, drop}
use Rattle.directory_rules.specs.Sight.{sealed}
use Rattle.grain_partition.proofs.seals.sealed.Given as goal

-- the snapshots so far, and then those of the arcs to come
abbrev pub invariant-arcs : goal.invariant-arcs
invariant-arcs l =
    l.snapshots.items ++ sealed l.hashing l.view l.silo l.pieces.entries (drop l.arc-index l.arcs) ≡ sealed l.hashing l.view l.silo
    l.pieces.entries l.arcs
