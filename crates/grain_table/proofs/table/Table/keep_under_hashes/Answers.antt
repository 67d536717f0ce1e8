use Rattle.std.proofs.Common.{◌≡◌, ◌∙◌, ◌+◌, ap, sym, subst, true, arith}
use Rattle.std.specs.Prelude.{filter, nat_lt}
use Rattle.std.specs.List.{AllByRecursion}
use Rattle.ring_range.specs.Range.{holds}
use Rattle.hash_ring.specs.Hash.{hash_grain}
use Rattle.directory_rules.specs.Table.{entries_of, lie_in}
use Rattle.grain_table.specs.Table.{TableValue}
use Rattle.grain_table.proofs.ByGrain.{by_grain_is_table}
use Rattle.grain_table.proofs.Ends.{within_before}
use Rattle.grain_table.proofs.Filters.{all_passed}
use Rattle.grain_table.proofs.Outside.{all_lie}
use Rattle.grain_table.proofs.table.Table.keep_under_hashes.Goals as goal

pub returns-then-lies_under_hashes : goal.returns-then-lies_under_hashes
returns-then-lies_under_hashes c =
    let own = c.args.self.now.hashing in
    let under = subst (λ (v : TableValue). AllByRecursion (λ e. e.1.grain ≡ e.0) v.entries) c.self.view_is (by_grain_is_table c.self.inside.map).under in
    let lie : lie_in own c.args.range.now (entries_of (filter (λ e. nat_lt (hash_grain own e.0) (c.from.result + c.size.result)) c.args.self.now.entries)) ≡ true =
    ap (λ (v : TableValue). lie_in v.hashing c.args.range.now (entries_of v.entries)) (sym c.keep_before.ensures)
    ∙ sym c.lies_under_hashes.ensures ∙ c.if-lies_under_hashes.true in
    c.keep_before.ensures
    ∙ ap (λ entries. record c.args.self.now { entries = entries })
    (sym
    (all_lie own c.args.range.now (filter (λ e. nat_lt (hash_grain own e.0) (c.from.result + c.size.result)) c.args.self.now.entries)
    (all_passed (λ e. nat_lt (hash_grain own e.0) (c.from.result + c.size.result)) (λ e. e.1.grain ≡ e.0) c.args.self.now.entries under)
    lie)
    ∙ within_before own c.args.range.now (c.from.result + c.size.result) c.in_range.ensures
    (omega (arith, c.from.ensures, c.start.ensures, c.size.ensures.value)) c.args.self.now.entries)

pub returns : goal.returns
returns c =
    c.keep_those_under.ensures
    ∙ ap (λ (v : TableValue). record v { entries = filter (λ e. holds c.args.range.now (hash_grain v.hashing e.0)) v.entries })
    c.keep_before.ensures
    ∙ ap (λ entries. record c.args.self.now { entries = entries })
    (within_before c.args.self.now.hashing c.args.range.now (c.from.result + c.size.result) c.in_range.ensures
    (omega (arith, c.from.ensures, c.start.ensures, c.size.ensures.value)) c.args.self.now.entries)
