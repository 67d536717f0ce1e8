use Rattle.std.proofs.Common.{◌≡◌}
use Rattle.std.specs.List.{list_any}
use Rattle.directory_rules.specs.Members.{is_dead_in}
use Rattle.grain_table.proofs.table.put.is_any_dead.Given as goal

-- one of all is exactly where one of the rest is
abbrev pub invariant-silos : goal.invariant-silos
invariant-silos l = list_any (is_dead_in l.view) l.silos.keys ≡ list_any (is_dead_in l.view) l.silo-iterator
