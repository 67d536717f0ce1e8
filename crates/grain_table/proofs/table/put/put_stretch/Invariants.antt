use Rattle.std.proofs.Common.{◌≡◌}
use Rattle.std.specs.List.{AllByRecursion}
use Rattle.std.specs.Map.{keys_of}
use Rattle.grain_table.specs.Hashed.{IsKeyOf}
use Rattle.grain_table.specs.Stretch.{is_between}
use Rattle.grain_table.proofs.Put.{entries_under, put_in}
use Rattle.grain_table.proofs.Ranges.{passed}
use Rattle.grain_table.proofs.table.put.put_stretch.Given as goal

-- the rest of the stretch put in gives the whole
abbrev pub invariant-entries : goal.invariant-entries
invariant-entries l = record {
  hashing_is : l.table.hashing ≡ l.initial.table.hashing;
  whole : put_in l.table.entries (entries_under l.key-iterator) ≡ put_in l.initial.table.entries
      (entries_under (passed (is_between l.first l.end) l.from));
  keys : AllByRecursion (IsKeyOf l.initial.table.hashing) (keys_of l.key-iterator);
}
