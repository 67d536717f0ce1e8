use Rattle.std.proofs.Common.{◌≡◌, fold, take}
use Rattle.directory_rules.specs.Table.{with_entry}
use Rattle.node_plans.proofs.order.put_all_short.Given as goal

-- the entries passed are in
abbrev pub invariant-loop-entry : goal.invariant-loop-entry
invariant-loop-entry l = l.table ≡ record l.fn.table { entries = fold with_entry l.fn.table.entries (take l.entry-index l.entries) }
