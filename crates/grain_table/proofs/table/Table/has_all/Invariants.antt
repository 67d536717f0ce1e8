use Rattle.std.proofs.Common.{◌≡◌, ◌↔◌, Some}
use Rattle.std.specs.List.{AllByRecursion}
use Rattle.directory_rules.specs.Table.{entry_at}
use Rattle.grain_table.specs.Hashed.{entry_under}
use Rattle.grain_table.proofs.table.Table.has_all.Given as goal

-- all are there exactly where the rest are
abbrev pub invariant-entries : goal.invariant-entries
invariant-entries l =
    AllByRecursion (λ e. entry_at e.0.grain l.self.entries ≡ Some (entry_under e)) l.map ↔ AllByRecursion
    (λ e. entry_at e.0.grain l.self.entries ≡ Some (entry_under e)) l.key-iterator
