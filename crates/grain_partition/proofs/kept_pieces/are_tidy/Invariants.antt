use Rattle.std.proofs.Common.{◌≡◌}
use Rattle.grain_partition.specs.Holdings.{are_tidy}
use Rattle.grain_partition.proofs.kept_pieces.are_tidy.Given as goal

-- all are tidy exactly where the rest are
abbrev pub invariant-pieces : goal.invariant-pieces
invariant-pieces l = are_tidy l.hashing l.pieces.entries ≡ are_tidy l.hashing l.piece-iterator
