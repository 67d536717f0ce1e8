use Rattle.script_lines.proofs.Fronts.{begins_with_the_first}
use Rattle.script_lines.proofs.SpacedWords.{then_spaced}
use Rattle.script_lines.proofs.show_lines.push_range_words.Goals as goal

pub returns-in_err-push_range-clause-kept : goal.returns-in_err-push_range-clause-kept
returns-in_err-push_range-clause-kept c = begins_with_the_first _ _ _ c.push_word.ensures.kept c.push_range.ensures.kept

pub returns-in_err-push_silo-clause-kept : goal.returns-in_err-push_silo-clause-kept
returns-in_err-push_silo-clause-kept c =
    begins_with_the_first _ _ _ (begins_with_the_first _ _ _ c.push_word.ensures.kept c.push_range.ensures.kept) c.push_silo.ensures.kept

pub returns-in_err-push_state-clause-kept : goal.returns-in_err-push_state-clause-kept
returns-in_err-push_state-clause-kept c =
    begins_with_the_first _ _ _ (begins_with_the_first _ _ _
    (begins_with_the_first _ _ _ c.push_word.ensures.kept c.push_range.ensures.kept) c.push_silo.ensures.kept) c.push_state.ensures.kept

pub returns-clause-written : goal.returns-clause-written
returns-clause-written c =
    then_spaced _ _ _ _ _ c.in_ok-push_word.ensures.written
    (then_spaced _ _ _ _ _ c.in_ok-push_range.ensures.written
    (then_spaced _ _ _ _ _ c.in_ok-push_silo.ensures.written
    c.in_ok-push_state.ensures.written))

pub returns-clause-kept : goal.returns-clause-kept
returns-clause-kept c =
    begins_with_the_first _ _ _ (begins_with_the_first _ _ _
    (begins_with_the_first _ _ _ c.push_word.ensures.kept c.push_range.ensures.kept) c.push_silo.ensures.kept) c.push_state.ensures.kept
