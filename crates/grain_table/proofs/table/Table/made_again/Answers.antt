use Rattle.std.proofs.Common.{◌≡◌, subst, []}
use Rattle.directory_rules.specs.Table.{entries_of}
use Rattle.grain_table.specs.Table.{TableValue}
use Rattle.grain_table.proofs.ByGrain.{by_grain_is_table}
use Rattle.grain_table.proofs.Put.{put_in, put_in_nothing}
use Rattle.grain_table.proofs.table.Table.made_again.Goals as goal

pub returns : goal.returns
returns c =
    subst (λ (v : TableValue). put_in [] (entries_of v.entries) ≡ v.entries) c.self.view_is
    (put_in_nothing _ (by_grain_is_table c.self.inside.map))
