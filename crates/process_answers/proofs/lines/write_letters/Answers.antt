use Rattle.process_rules.specs.LetterText.{letter_line}
use Rattle.script_lines.proofs.Fronts.{begins_with_itself, begins_with_the_first}
use Rattle.process_answers.proofs.Written.{begins_unchanged, begins_with_more, each_row, no_line, row_by_row}
use Rattle.process_answers.proofs.lines.write_letters.Goals as goal

pub loop-letter-init : goal.loop-letter-init
loop-letter-init c = record { written = no_line _; begins = begins_with_itself _ }

pub loop-letter-preserved : goal.loop-letter-preserved
loop-letter-preserved c = record {
  written =
      row_by_row letter_line c.args.out.now.items c.loop-letter.out.items c.write_letter.new.out.items c.args.letters.now
      c.loop-letter.letter-index c.letter-item.result
      c.loop-letter-test.true c.letter-item.is c.loop-letter.invariant.written c.in_ok-write_letter.ensures.written;
  begins = begins_with_the_first _ _ _ c.loop-letter.invariant.begins (begins_with_more _ _ _ c.in_ok-write_letter.ensures.written);
}

pub returns-in_err-write_letter-clause-kept : goal.returns-in_err-write_letter-clause-kept
returns-in_err-write_letter-clause-kept c =
    begins_with_the_first _ _ _ c.loop-letter.invariant.begins (begins_unchanged _ _ c.in_err-write_letter.ensures.unchanged)

pub returns-clause-written : goal.returns-clause-written
returns-clause-written c =
    each_row letter_line c.args.out.now.items c.loop-letter.out.items c.args.letters.now c.loop-letter.letter-index c.loop-letter-test.false
    c.loop-letter.invariant.written

pub returns-clause-kept : goal.returns-clause-kept
returns-clause-kept c = c.loop-letter.invariant.begins
