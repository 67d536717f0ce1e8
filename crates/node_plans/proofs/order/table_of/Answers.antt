use Rattle.std.proofs.Common.{sym, ap, ◌∙◌, ◌++◌, fold, []}
use Rattle.std.proofs.lemmas.List.Sums.{fold-append}
use Rattle.directory_rules.specs.Table.{with_entry}
use Rattle.grain_table.specs.Table.{TableValue}
use Rattle.node_plans.proofs.Tabled.{rising_put}
use Rattle.node_plans.proofs.order.table_of.Goals as goal

pub returns : goal.returns
returns c =
    ap (λ (t : TableValue). t.entries) c.in_ok-put_all.ensures
    ∙ ap (λ (t : TableValue). fold with_entry t.entries c.args.entries.now)
    (c.in_ok-put_all_short.ensures ∙ ap (λ (t : TableValue). record t { entries = fold with_entry t.entries c.args.gathered.now })
    c.new-table.ensures)
    ∙ sym (fold-append with_entry [] c.args.gathered.now c.args.entries.now)
    ∙ rising_put (c.args.gathered.now ++ c.args.entries.now) c.requires
