use Rattle.std.proofs.Common.{◌≡◌, ◌∙◌, ap, subst, IfOk}
use Rattle.std.specs.Prelude.{filter}
use Rattle.ring_range.specs.Range.{holds}
use Rattle.hash_ring.specs.Hash.{hash_grain}
use Rattle.directory_rules.specs.Table.{entries_of}
use Rattle.grain_table.specs.Table.{TableValue}
use Rattle.grain_table.proofs.ByGrain.{IsTable, by_grain_is_table}
use Rattle.grain_table.proofs.Put.{put_in}
use Rattle.grain_table.proofs.Within.{put_within}
use Rattle.grain_table.proofs.table.Table.with_own_within.Goals as goal

pub returns : goal.returns
returns c =
    let is = subst (λ (v : TableValue). IsTable v.entries) c.self.view_is (by_grain_is_table c.self.inside.map) in
    subst (λ entries. IfOk c.put_range.result (λ table. table ≡ record c.args.self { entries = entries }))
    (put_within c.other.inside.hashing c.args.range.now c.args.self.entries c.other.inside.map is c.other.invariant.are
    ∙ ap (λ (v : TableValue). put_in c.args.self.entries
    (filter (λ e. holds c.args.range.now (hash_grain v.hashing e.grain)) (entries_of v.entries))) c.other.view_is
    ∙ ap (λ hashing. put_in c.args.self.entries (filter (λ e. holds c.args.range.now (hash_grain hashing e.grain))
    (entries_of c.args.other.now.entries))) c.requires)
    c.put_range.ensures
