use Rattle.script_lines.proofs.Fronts.{begins_with_itself, begins_with_the_first}
use Rattle.process_lines.proofs.Written.{all_ranges_written, more_ranges_written, none_written}
use Rattle.process_lines.proofs.write.push_ranges.Goals as goal

pub loop-range-init : goal.loop-range-init
loop-range-init c = record { written = none_written _; begins = begins_with_itself _ }

pub loop-range-preserved : goal.loop-range-preserved
loop-range-preserved c = record {
  written =
      more_ranges_written c.args.out.now.items c.loop-range.out.items c.push_range.new.out.items c.args.ranges.now c.loop-range.range-index
      c.range-item.result c.loop-range-test.true c.range-item.is
      c.loop-range.invariant.written c.in_ok-push_range.ensures.written;
  begins = begins_with_the_first _ _ _ c.loop-range.invariant.begins c.push_range.ensures.kept;
}

pub returns-in_err-push_range-clause-kept : goal.returns-in_err-push_range-clause-kept
returns-in_err-push_range-clause-kept c = begins_with_the_first _ _ _ c.loop-range.invariant.begins c.push_range.ensures.kept

pub returns-clause-written : goal.returns-clause-written
returns-clause-written c =
    all_ranges_written c.args.out.now.items c.loop-range.out.items c.args.ranges.now c.loop-range.range-index c.loop-range-test.false
    c.loop-range.invariant.written

pub returns-clause-kept : goal.returns-clause-kept
returns-clause-kept c = c.loop-range.invariant.begins
