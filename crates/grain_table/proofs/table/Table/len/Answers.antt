use Rattle.std.proofs.Common.{◌∙◌, ap, length}
use Rattle.grain_table.specs.Table.{TableValue}
use Rattle.grain_table.proofs.Count.{length_by_grain}
use Rattle.grain_table.proofs.table.Table.len.Goals as goal

pub returns : goal.returns
returns c =
    c.len.ensures ∙ length_by_grain c.self.inside.hashing c.self.inside.map c.self.invariant.are
    ∙ ap (λ (v : TableValue). length v.entries) c.self.view_is
