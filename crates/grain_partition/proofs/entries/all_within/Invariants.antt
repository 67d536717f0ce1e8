use Rattle.std.proofs.Common.{◌≡◌, []}
use Rattle.std.specs.Prelude.{fold, flat_map}
use Rattle.directory_rules.specs.Table.{entries_of}
use Rattle.grain_partition.proofs.Within.{with_within}
use Rattle.grain_partition.proofs.entries.all_within.Given as goal

-- the rest put in gives the whole
abbrev pub invariant-pieces : goal.invariant-pieces
invariant-pieces l = record {
  hashing_is : l.all.hashing ≡ l.fn.hashing;
  whole :
      fold (with_within l.fn.hashing l.range) l.all.entries (flat_map (λ e. entries_of e.1.entries) l.piece-iterator)
      ≡ fold (with_within l.fn.hashing l.range) [] (flat_map (λ e. entries_of e.1.entries) l.pieces.entries);
}
