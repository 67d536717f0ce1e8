use Rattle.std.proofs.Common.{◌≡◌}
use Rattle.std.specs.List.{AllByRecursion}
use Rattle.std.specs.Map.{keys_of}
use Rattle.grain_table.specs.Hashed.{IsKeyOf}
use Rattle.grain_table.proofs.Put.{entries_under, put_in}
use Rattle.grain_table.proofs.table.put.put_all.Given as goal

-- the rest put in gives the whole
abbrev pub invariant-entries : goal.invariant-entries
invariant-entries l = record {
  hashing_is : l.table.hashing ≡ l.initial.table.hashing;
  whole : put_in l.table.entries (entries_under l.key-iterator) ≡ put_in l.initial.table.entries (entries_under l.from);
  keys : AllByRecursion (IsKeyOf l.from_hashing) (keys_of l.key-iterator);
}
