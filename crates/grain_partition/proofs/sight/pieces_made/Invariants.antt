use Rattle.std.proofs.Common.{◌≡◌, ◌++◌, drop}
use Rattle.grain_partition.specs.Kept.{pieces_made}
use Rattle.grain_partition.proofs.sight.pieces_made.Given as goal

-- the pieces so far, and then those of the arcs to come
abbrev pub invariant-arcs : goal.invariant-arcs
invariant-arcs l =
    l.made.entries ++ pieces_made l.tidy l.next l.hashing l.view l.silo l.pieces.entries (drop l.arc-index l.arcs) ≡ pieces_made l.tidy
    l.next l.hashing l.view l.silo l.pieces.entries l.arcs
