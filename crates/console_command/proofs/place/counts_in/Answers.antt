use Rattle.std.proofs.Common.{[], ◌+◌, drop}
use Rattle.std.proofs.lemmas.List.{drop_all}
use Rattle.directory_rules.specs.Placement.{count_of}
use Rattle.script_rules.specs.Show.{held_counts}
use Rattle.console_command.proofs.Counted.{counted, counts_all, counts_more, counts_none}
use Rattle.console_command.proofs.Rows.{row_left}
use Rattle.console_command.proofs.place.counts_in.Goals as goal

pub loop-row-init : goal.loop-row-init
loop-row-init c =
    counts_none (count_of (held_counts c.args.world.now)) c.rows-row-items.result.now c.args.view.now.rows c.new-counts.result.entries
    c.rows-row-items.ensures c.new-counts.ensures.empty

pub loop-row-preserved : goal.loop-row-preserved
loop-row-preserved c =
    let held = count_of (held_counts c.args.world.now) in
    let rows = c.rows-row-items.result.now in
    let index = c.loop-row.row-index in
    let row = c.row-item.result in
    counts_more held (counted held c.args.view.now.rows []) c.loop-row.counts.entries c.insert.new.self.entries row c.held_count.result
    (drop index rows) (drop (index + 1) rows)
    (row_left rows index row c.loop-row-test.true c.row-item.is) c.in_ok-insert.ensures.entries c.held_count.ensures c.loop-row.invariant

pub returns : goal.returns
returns c =
    let row = c.loop-row.row-index in
    let rows = c.rows-row-items.result.now in
    counts_all c.args.world.now c.args.view.now (drop row rows) c.loop-row.counts.entries (drop_all row rows c.loop-row-test.false)
    c.loop-row.invariant
