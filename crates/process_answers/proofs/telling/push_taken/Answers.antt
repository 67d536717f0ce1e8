use Rattle.script_lines.proofs.Fronts.{begins_with_the_first}
use Rattle.script_lines.proofs.SpacedWords.{then_spaced}
use Rattle.process_answers.proofs.telling.push_taken.Goals as goal

pub returns-in_err-push_grain_if_any-clause-kept : goal.returns-in_err-push_grain_if_any-clause-kept
returns-in_err-push_grain_if_any-clause-kept c = begins_with_the_first _ _ _ c.push_word.ensures.kept c.push_grain_if_any.ensures.kept

pub returns-in_err-push_word-2-clause-kept : goal.returns-in_err-push_word-2-clause-kept
returns-in_err-push_word-2-clause-kept c =
    begins_with_the_first _ _ _ (begins_with_the_first _ _ _ c.push_word.ensures.kept c.push_grain_if_any.ensures.kept)
    c.push_word-2.ensures.kept

pub returns-in_err-push_activation-clause-kept : goal.returns-in_err-push_activation-clause-kept
returns-in_err-push_activation-clause-kept c =
    begins_with_the_first _ _ _ (begins_with_the_first _ _ _
    (begins_with_the_first _ _ _ c.push_word.ensures.kept c.push_grain_if_any.ensures.kept) c.push_word-2.ensures.kept)
    c.push_activation.ensures.kept

pub returns-clause-written : goal.returns-clause-written
returns-clause-written c =
    then_spaced _ _ _ _ _ c.in_ok-push_word.ensures.written
    (then_spaced _ _ _ _ _ c.in_ok-push_grain_if_any.ensures.written
    (then_spaced _ _ _ _ _ c.in_ok-push_word-2.ensures.written
    c.in_ok-push_activation.ensures.written))

pub returns-clause-kept : goal.returns-clause-kept
returns-clause-kept c =
    begins_with_the_first _ _ _ (begins_with_the_first _ _ _
    (begins_with_the_first _ _ _ c.push_word.ensures.kept c.push_grain_if_any.ensures.kept) c.push_word-2.ensures.kept)
    c.push_activation.ensures.kept
