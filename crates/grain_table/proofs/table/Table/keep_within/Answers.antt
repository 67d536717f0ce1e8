use Rattle.std.proofs.Common.{◌≡◌, ◌∙◌, ap, sym, subst}
use Rattle.std.specs.List.{AllByRecursion}
use Rattle.grain_table.specs.Table.{TableValue}
use Rattle.grain_table.proofs.ByGrain.{by_grain_is_table}
use Rattle.grain_table.proofs.Outside.{all_lie}
use Rattle.grain_table.proofs.table.Table.keep_within.Goals as goal

pub returns-then-lies_in : goal.returns-then-lies_in
returns-then-lies_in c =
    let under = subst (λ (v : TableValue). AllByRecursion (λ e. e.1.grain ≡ e.0) v.entries) c.self.view_is (by_grain_is_table c.self.inside.map).under in
    ap (λ entries. record c.args.self.now { entries = entries })
    (sym (all_lie c.args.hashing c.args.range.now c.args.self.now.entries under (sym c.lies_in.ensures ∙ c.if-lies_in.true)))
