use Rattle.std.proofs.Common.{◌∙◌, ap, subst, []}
use Rattle.std.specs.Prelude.{filter, not}
use Rattle.ring_range.specs.Range.{holds}
use Rattle.hash_ring.specs.Hash.{hash_grain}
use Rattle.directory_rules.specs.Members.{is_dead_in}
use Rattle.directory_rules.specs.Table.{entries_of}
use Rattle.grain_table.specs.Table.{TableValue}
use Rattle.grain_table.proofs.ByGrain.{IsTable, by_grain_is_table}
use Rattle.grain_table.proofs.Put.{put_in}
use Rattle.grain_table.proofs.Within.{kept_from}
use Rattle.grain_table.proofs.table.Table.kept.Goals as goal

pub returns : goal.returns
returns c =
    let is = subst (λ (v : TableValue). IsTable v.entries) c.self.view_is (by_grain_is_table c.self.inside.map) in
    c.remove_dead.ensures
    ∙ ap (λ (t : TableValue). record t { entries = filter (λ e. not (is_dead_in c.args.view.now e.1.activation.silo)) t.entries })
    (c.in_ok-table.ensures
    ∙ ap (λ (t : TableValue). record t {
      entries = put_in t.entries
          (filter (λ e. holds c.args.range.now (hash_grain t.hashing e.grain)) (entries_of c.args.self.now.entries));
    }) c.new.ensures)
    ∙ ap (λ (v : TableValue). record {
      hashing = v.hashing;
      entries = filter (λ e. not (is_dead_in c.args.view.now e.1.activation.silo))
          (put_in [] (filter (λ e. holds c.args.range.now (hash_grain v.hashing e.grain)) (entries_of c.args.self.now.entries)));
    }) c.self.view_is
    ∙ ap (λ entries. record c.args.self.now { entries = entries })
    (kept_from c.args.self.now.hashing c.args.view.now c.args.range.now c.args.self.now.entries is)
