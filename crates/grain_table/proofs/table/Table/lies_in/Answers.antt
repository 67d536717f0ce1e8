use Rattle.std.proofs.Common.{◌∙◌, ap, sym}
use Rattle.ring_range.specs.Range.{holds}
use Rattle.hash_ring.specs.Hash.{hash_grain}
use Rattle.directory_rules.specs.Table.{entries_of, lie_in}
use Rattle.grain_table.specs.Table.{TableValue}
use Rattle.grain_table.proofs.Outside.{each_grain}
use Rattle.grain_table.proofs.table.Table.lies_in.Goals as goal

pub returns-then-same : goal.returns-then-same
returns-then-same c =
    c.lies_under_hashes.ensures
    ∙ ap (λ hashing. lie_in hashing c.args.range.now (entries_of c.args.self.now.entries))
    (sym (ap (λ (v : TableValue). v.hashing) c.self.view_is) ∙ c.same.ensures.0 c.if-same.true)

pub returns : goal.returns
returns c =
    c.are_hashed_into.ensures
    ∙ sym (each_grain c.self.inside.hashing (λ grain. holds c.args.range.now (hash_grain c.args.hashing grain)) c.self.inside.map
    c.self.invariant.are)
    ∙ ap (λ (v : TableValue). lie_in c.args.hashing c.args.range.now (entries_of v.entries)) c.self.view_is
