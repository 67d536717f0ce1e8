use Rattle.script_lines.proofs.Fronts.{begins_with_the_first}
use Rattle.script_lines.proofs.SpacedWords.{then_spaced}
use Rattle.process_lines.proofs.write.push_query.Goals as goal

pub returns-in_err-push_after-clause-kept : goal.returns-in_err-push_after-clause-kept
returns-in_err-push_after-clause-kept c = begins_with_the_first _ _ _ c.push_range.ensures.kept c.push_after.ensures.kept

pub returns-clause-written : goal.returns-clause-written
returns-clause-written c =
    then_spaced _ _ _ _ _ c.in_ok-push_range.ensures.written
    c.in_ok-push_after.ensures.written

pub returns-clause-kept : goal.returns-clause-kept
returns-clause-kept c = begins_with_the_first _ _ _ c.push_range.ensures.kept c.push_after.ensures.kept
