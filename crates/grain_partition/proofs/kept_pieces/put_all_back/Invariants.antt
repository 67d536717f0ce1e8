use Rattle.std.proofs.Common.{◌≡◌}
use Rattle.std.specs.Prelude.{fold}
use Rattle.grain_partition.specs.Kept.{with_staying}
use Rattle.grain_partition.proofs.kept_pieces.put_all_back.Given as goal

-- the rest put back gives the whole
abbrev pub invariant-pieces : goal.invariant-pieces
invariant-pieces l =
    fold (with_staying l.hashing l.view) l.made.entries l.start-iterator ≡ fold (with_staying l.hashing l.view) l.initial.made.entries
    l.fn.before.entries
