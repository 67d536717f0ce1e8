use Rattle.script_rules.specs.Show.{held_line}
use Rattle.script_lines.proofs.Fronts.{begins_with_itself, begins_with_the_first}
use Rattle.process_answers.proofs.Written.{begins_unchanged, begins_with_more, each_row, no_line, row_by_row}
use Rattle.process_answers.proofs.show.write_each_held.Goals as goal

pub loop-row-init : goal.loop-row-init
loop-row-init c = record { written = no_line _; begins = begins_with_itself _ }

pub loop-row-preserved : goal.loop-row-preserved
loop-row-preserved c = record {
  written =
      row_by_row (λ e. held_line c.args.silo.now e.0 e.1) c.args.out.now.items c.loop-row.out.items c.write_held.new.out.items
      c.args.activations.now c.loop-row.row-index c.row-item.result
      c.loop-row-test.true c.row-item.is c.loop-row.invariant.written c.in_ok-write_held.ensures.written;
  begins = begins_with_the_first _ _ _ c.loop-row.invariant.begins (begins_with_more _ _ _ c.in_ok-write_held.ensures.written);
}

pub returns-in_err-write_held-clause-kept : goal.returns-in_err-write_held-clause-kept
returns-in_err-write_held-clause-kept c =
    begins_with_the_first _ _ _ c.loop-row.invariant.begins (begins_unchanged _ _ c.in_err-write_held.ensures.unchanged)

pub returns-clause-written : goal.returns-clause-written
returns-clause-written c =
    each_row (λ e. held_line c.args.silo.now e.0 e.1) c.args.out.now.items c.loop-row.out.items c.args.activations.now c.loop-row.row-index
    c.loop-row-test.false c.loop-row.invariant.written

pub returns-clause-kept : goal.returns-clause-kept
returns-clause-kept c = c.loop-row.invariant.begins
