use Rattle.std.proofs.Common.{subst}
use Rattle.std.specs.List.Sorted.{IsStrictlySortedBy}
use Rattle.std.specs.Map.{keys_of}
use Rattle.silo_address.specs.Grain.{grain_cmp}
use Rattle.grain_table.specs.Table.{TableValue}
use Rattle.grain_table.proofs.ByGrain.{by_grain_is_table}
use Rattle.grain_table.proofs.table.Table.whole.Goals as goal

pub returns : goal.returns
returns c =
    subst (λ (v : TableValue). IsStrictlySortedBy grain_cmp (keys_of v.entries)) c.self.view_is
    (by_grain_is_table c.self.inside.map).in_order
