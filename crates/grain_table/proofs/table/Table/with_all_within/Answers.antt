use Rattle.std.proofs.Common.{◌≡◌, ◌∙◌, ap, subst, IfOk}
use Rattle.std.specs.Prelude.{filter}
use Rattle.ring_range.specs.Range.{holds}
use Rattle.hash_ring.specs.Hash.{hash_grain}
use Rattle.directory_rules.specs.Table.{entries_of}
use Rattle.grain_table.specs.Table.{TableValue}
use Rattle.grain_table.proofs.ByGrain.{IsTable, by_grain_is_table}
use Rattle.grain_table.proofs.Put.{put_in, put_in_nothing}
use Rattle.grain_table.proofs.table.Table.with_all_within.Goals as goal

pub returns : goal.returns
returns c =
    let is = subst (λ (v : TableValue). IsTable v.entries) c.other.view_is (by_grain_is_table c.other.inside.map) in
    let hashed : c.in_ok-hashed.hashed.entries ≡ c.args.other.now.entries =
    ap (λ (v : TableValue). v.entries) c.in_ok-hashed.ensures
    ∙ ap (λ (v : TableValue). put_in v.entries (entries_of c.args.other.now.entries)) c.new.ensures
    ∙ put_in_nothing c.args.other.now.entries is in
    subst
    (λ entries. IfOk c.with_own_within-2.result
    (λ table. table ≡ record c.args.self {
      entries = put_in c.args.self.entries
          (filter (λ e. holds c.args.range.now (hash_grain c.args.self.hashing e.grain)) (entries_of entries));
    }))
    hashed c.with_own_within-2.ensures
