use Rattle.std.proofs.Common.{◌≡◌, ◌∙◌, ap, subst, IfOk}
use Rattle.directory_rules.specs.Table.{entries_of}
use Rattle.grain_table.specs.Table.{TableValue}
use Rattle.grain_table.proofs.ByGrain.{IsTable, by_grain_is_table}
use Rattle.grain_table.proofs.Put.{put_by_hash, put_in}
use Rattle.grain_table.proofs.table.Table.with_all.Goals as goal

pub returns : goal.returns
returns c =
    let is = subst (λ (v : TableValue). IsTable v.entries) c.self.view_is (by_grain_is_table c.self.inside.map) in
    subst (λ entries. IfOk c.put_all.result (λ table. table ≡ record c.args.self { entries = entries }))
    (put_by_hash c.other.inside.hashing c.args.self.entries c.other.inside.map is c.other.invariant.are
    ∙ ap (λ (v : TableValue). put_in c.args.self.entries (entries_of v.entries)) c.other.view_is)
    c.put_all.ensures
