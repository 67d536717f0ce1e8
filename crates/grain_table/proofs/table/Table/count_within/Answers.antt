use Rattle.std.proofs.Common.{◌∙◌, ap, sym, length}
use Rattle.std.specs.Prelude.{filter}
use Rattle.ring_range.specs.Range.{holds}
use Rattle.hash_ring.specs.Hash.{hash_grain}
use Rattle.directory_rules.specs.Table.{entries_of}
use Rattle.grain_table.specs.Table.{TableValue}
use Rattle.grain_table.proofs.Counted.{all_counted, passing_by_grain}
use Rattle.grain_table.proofs.table.Table.count_within.Goals as goal

pub returns-then-lies_in : goal.returns-then-lies_in
returns-then-lies_in c =
    c.len.ensures ∙ all_counted c.args.hashing c.args.range.now c.args.self.now.entries (sym c.lies_in.ensures ∙ c.if-lies_in.true)

pub returns : goal.returns
returns c =
    c.count_hashed_into.ensures
    ∙ passing_by_grain c.self.inside.hashing (λ grain. holds c.args.range.now (hash_grain c.args.hashing grain)) c.self.inside.map
    c.self.invariant.are
    ∙ ap (λ (v : TableValue). length (filter (λ e. holds c.args.range.now (hash_grain c.args.hashing e.grain)) (entries_of v.entries)))
    c.self.view_is
