use Rattle.std.proofs.Common.{◌≡◌}
use Rattle.grain_table.proofs.hashed_map.HashedMap.same.Given as goal

-- the maps are the same just where the rests are
abbrev pub invariant-entries : goal.invariant-entries
invariant-entries l = record { so : l.key-iterator ≡ l.others → l.self ≡ l.other; back : l.self ≡ l.other → l.key-iterator ≡ l.others }
