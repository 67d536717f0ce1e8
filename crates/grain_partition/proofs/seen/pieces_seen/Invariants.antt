use Rattle.std.proofs.Common.{◌≡◌, ◌++◌, drop}
use Rattle.grain_partition.proofs.Foreseen.{is_owned, piece_seen}
use Rattle.grain_partition.proofs.FromArcs.{made}
use Rattle.grain_partition.proofs.seen.pieces_seen.Given as goal

-- the pieces so far, and then those of the arcs to come
abbrev pub invariant-arcs : goal.invariant-arcs
invariant-arcs l =
    let f = piece_seen l.next l.hashing l.view l.silo l.pieces.entries in
    let q = is_owned l.next l.hashing l.view l.silo l.pieces.entries in
    l.seen.entries ++ made f q (drop l.arc-index l.arcs) ≡ made f q l.arcs
