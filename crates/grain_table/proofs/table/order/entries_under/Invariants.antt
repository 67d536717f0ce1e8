use Rattle.std.proofs.Common.{◌≡◌, ◌++◌}
use Rattle.grain_table.proofs.Put.{entries_under}
use Rattle.grain_table.proofs.table.order.entries_under.Given as goal

-- the entries so far and the rest are all
abbrev pub invariant-entries : goal.invariant-entries
invariant-entries l = l.entries.items ++ entries_under l.key-iterator ≡ entries_under l.hashed
