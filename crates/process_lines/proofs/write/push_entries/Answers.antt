use Rattle.script_lines.proofs.Fronts.{begins_with_itself, begins_with_the_first}
use Rattle.process_lines.proofs.Written.{all_written, more_written, none_written}
use Rattle.process_lines.proofs.write.push_entries.Goals as goal

pub loop-entry-init : goal.loop-entry-init
loop-entry-init c = record { written = none_written _; begins = begins_with_itself _ }

pub loop-entry-preserved : goal.loop-entry-preserved
loop-entry-preserved c = record {
  written =
      more_written c.args.out.now.items c.loop-entry.out.items c.push_placed.new.out.items c.args.entries.now c.loop-entry.entry-index
      c.entry-item.result c.loop-entry-test.true c.entry-item.is
      c.loop-entry.invariant.written c.in_ok-push_placed.ensures.written;
  begins = begins_with_the_first _ _ _ c.loop-entry.invariant.begins c.push_placed.ensures.kept;
}

pub returns-in_err-push_placed-clause-kept : goal.returns-in_err-push_placed-clause-kept
returns-in_err-push_placed-clause-kept c = begins_with_the_first _ _ _ c.loop-entry.invariant.begins c.push_placed.ensures.kept

pub returns-clause-written : goal.returns-clause-written
returns-clause-written c =
    all_written c.args.out.now.items c.loop-entry.out.items c.args.entries.now c.loop-entry.entry-index c.loop-entry-test.false
    c.loop-entry.invariant.written

pub returns-clause-kept : goal.returns-clause-kept
returns-clause-kept c = c.loop-entry.invariant.begins
