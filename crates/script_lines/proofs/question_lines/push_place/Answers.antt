use Rattle.script_lines.proofs.Fronts.{begins_with_the_first}
use Rattle.script_lines.proofs.SpacedWords.{then_spaced}
use Rattle.script_lines.proofs.question_lines.push_place.Goals as goal

pub returns-in_err-push_grain-clause-kept : goal.returns-in_err-push_grain-clause-kept
returns-in_err-push_grain-clause-kept c = begins_with_the_first _ _ _ c.push_word.ensures.kept c.push_grain.ensures.kept

pub returns-in_err-push_chosen-clause-kept : goal.returns-in_err-push_chosen-clause-kept
returns-in_err-push_chosen-clause-kept c =
    begins_with_the_first _ _ _ (begins_with_the_first _ _ _ c.push_word.ensures.kept c.push_grain.ensures.kept) c.push_chosen.ensures.kept

pub returns-clause-written : goal.returns-clause-written
returns-clause-written c =
    then_spaced _ _ _ _ _ c.in_ok-push_word.ensures.written
    (then_spaced _ _ _ _ _ c.in_ok-push_grain.ensures.written
    c.in_ok-push_chosen.ensures.written)

pub returns-clause-kept : goal.returns-clause-kept
returns-clause-kept c =
    begins_with_the_first _ _ _ (begins_with_the_first _ _ _ c.push_word.ensures.kept c.push_grain.ensures.kept) c.push_chosen.ensures.kept
