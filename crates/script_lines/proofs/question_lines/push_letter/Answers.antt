use Rattle.std.proofs.Common.{ap, ◌∙◌, ◌++◌, ◌∷◌, []}
use Rattle.script_lines.specs.Spaced.{spaced}
use Rattle.script_lines.proofs.Fronts.{begins_with_the_first}
use Rattle.script_lines.proofs.SpacedWords.{then_spaced}
use Rattle.script_lines.proofs.question_lines.push_letter.Goals as goal

pub returns-in_err-push_word-clause-kept : goal.returns-in_err-push_word-clause-kept
returns-in_err-push_word-clause-kept c = begins_with_the_first _ _ _ c.push_number.ensures.kept c.push_word.ensures.kept

pub returns-in_err-push_silo-clause-kept : goal.returns-in_err-push_silo-clause-kept
returns-in_err-push_silo-clause-kept c =
    begins_with_the_first _ _ _ (begins_with_the_first _ _ _ c.push_number.ensures.kept c.push_word.ensures.kept) c.push_silo.ensures.kept

pub returns-in_err-push_silo-2-clause-kept : goal.returns-in_err-push_silo-2-clause-kept
returns-in_err-push_silo-2-clause-kept c =
    begins_with_the_first _ _ _ (begins_with_the_first _ _ _
    (begins_with_the_first _ _ _ c.push_number.ensures.kept c.push_word.ensures.kept) c.push_silo.ensures.kept)
    c.push_silo-2.ensures.kept

pub returns-in_err-push_number-2-clause-kept : goal.returns-in_err-push_number-2-clause-kept
returns-in_err-push_number-2-clause-kept c =
    begins_with_the_first _ _ _ (begins_with_the_first _ _ _
    (begins_with_the_first _ _ _ (begins_with_the_first _ _ _ c.push_number.ensures.kept c.push_word.ensures.kept)
    c.push_silo.ensures.kept) c.push_silo-2.ensures.kept) c.push_number-2.ensures.kept

pub returns-clause-written : goal.returns-clause-written
returns-clause-written c =
    then_spaced _ _ _ _ _ c.in_ok-push_number.ensures.written
    (then_spaced _ _ _ _ _ (c.in_ok-push_word.ensures.written
    ∙ ap (λ word. c.push_number.new.out.items ++ spaced (word ∷ [])) c.kind_word.ensures)
    (then_spaced _ _ _ _ _ c.in_ok-push_silo.ensures.written
    (then_spaced _ _ _ _ _ c.in_ok-push_silo-2.ensures.written
    c.in_ok-push_number-2.ensures.written)))

pub returns-clause-kept : goal.returns-clause-kept
returns-clause-kept c =
    begins_with_the_first _ _ _ (begins_with_the_first _ _ _
    (begins_with_the_first _ _ _ (begins_with_the_first _ _ _ c.push_number.ensures.kept c.push_word.ensures.kept)
    c.push_silo.ensures.kept) c.push_silo-2.ensures.kept) c.push_number-2.ensures.kept
