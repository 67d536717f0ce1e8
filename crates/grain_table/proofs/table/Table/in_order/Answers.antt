use Rattle.std.proofs.Common.{◌∙◌, ap, subst}
use Rattle.std.specs.List.Sorted.{IsPermutation}
use Rattle.directory_rules.specs.Table.{entries_of}
use Rattle.grain_table.specs.Table.{TableValue}
use Rattle.grain_table.proofs.Sorted.{sorted_by_grain}
use Rattle.grain_table.proofs.table.Table.in_order.Goals as goal

pub returns : goal.returns
returns c =
    sorted_by_grain c.self.inside.hashing c.self.inside.map c.self.invariant.are c.sort_unstable.new.self.items
    (subst (λ es. IsPermutation es c.sort_unstable.new.self.items) c.in_ok-entries.ensures c.sort_unstable.ensures.permutation)
    c.sort_unstable.ensures.sorted
    ∙ ap (λ (v : TableValue). entries_of v.entries) c.self.view_is
