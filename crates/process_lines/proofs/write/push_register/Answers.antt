use Rattle.script_lines.proofs.Fronts.{begins_with_the_first}
use Rattle.script_lines.proofs.SpacedWords.{then_spaced}
use Rattle.process_lines.proofs.write.push_register.Goals as goal

pub returns-in_err-push_previous-clause-kept : goal.returns-in_err-push_previous-clause-kept
returns-in_err-push_previous-clause-kept c = begins_with_the_first _ _ _ c.push_placed.ensures.kept c.push_previous.ensures.kept

pub returns-clause-written : goal.returns-clause-written
returns-clause-written c =
    then_spaced _ _ _ _ _ c.in_ok-push_placed.ensures.written
    c.in_ok-push_previous.ensures.written

pub returns-clause-kept : goal.returns-clause-kept
returns-clause-kept c = begins_with_the_first _ _ _ c.push_placed.ensures.kept c.push_previous.ensures.kept
