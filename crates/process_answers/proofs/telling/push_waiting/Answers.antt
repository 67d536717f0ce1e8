use Rattle.script_lines.proofs.Fronts.{begins_with_the_first}
use Rattle.script_lines.proofs.SpacedWords.{then_spaced}
use Rattle.process_answers.proofs.telling.push_waiting.Goals as goal

pub returns-in_err-push_grain_if_any-2-clause-kept : goal.returns-in_err-push_grain_if_any-2-clause-kept
returns-in_err-push_grain_if_any-2-clause-kept c =
    begins_with_the_first _ _ _ c.push_grain_if_any.ensures.kept c.push_grain_if_any-2.ensures.kept

pub returns-in_err-push_grain_if_any-3-clause-kept : goal.returns-in_err-push_grain_if_any-3-clause-kept
returns-in_err-push_grain_if_any-3-clause-kept c =
    begins_with_the_first _ _ _ (begins_with_the_first _ _ _ c.push_grain_if_any.ensures.kept c.push_grain_if_any-2.ensures.kept)
    c.push_grain_if_any-3.ensures.kept

pub returns-clause-written : goal.returns-clause-written
returns-clause-written c =
    then_spaced _ _ _ _ _ c.in_ok-push_grain_if_any.ensures.written
    (then_spaced _ _ _ _ _ c.in_ok-push_grain_if_any-2.ensures.written
    c.in_ok-push_grain_if_any-3.ensures.written)

pub returns-clause-kept : goal.returns-clause-kept
returns-clause-kept c =
    begins_with_the_first _ _ _ (begins_with_the_first _ _ _ c.push_grain_if_any.ensures.kept c.push_grain_if_any-2.ensures.kept)
    c.push_grain_if_any-3.ensures.kept
