use Rattle.std.proofs.Common.{ap, ◌∙◌, ◌++◌, ◌∷◌, []}
use Rattle.script_lines.specs.Spaced.{spaced}
use Rattle.script_lines.proofs.Fronts.{begins_with_the_first}
use Rattle.script_lines.proofs.SpacedWords.{then_spaced}
use Rattle.script_lines.proofs.show_lines.push_silo_words.Goals as goal

pub returns-in_err-push_silo-clause-kept : goal.returns-in_err-push_silo-clause-kept
returns-in_err-push_silo-clause-kept c = begins_with_the_first _ _ _ c.push_word.ensures.kept c.push_silo.ensures.kept

pub returns-in_err-push_word-2-clause-kept : goal.returns-in_err-push_word-2-clause-kept
returns-in_err-push_word-2-clause-kept c =
    begins_with_the_first _ _ _ (begins_with_the_first _ _ _ c.push_word.ensures.kept c.push_silo.ensures.kept) c.push_word-2.ensures.kept

pub returns-in_err-push_figures-clause-kept : goal.returns-in_err-push_figures-clause-kept
returns-in_err-push_figures-clause-kept c =
    begins_with_the_first _ _ _ (begins_with_the_first _ _ _ (begins_with_the_first _ _ _ c.push_word.ensures.kept c.push_silo.ensures.kept)
    c.push_word-2.ensures.kept) c.push_figures.ensures.kept

pub returns-clause-written : goal.returns-clause-written
returns-clause-written c =
    then_spaced _ _ _ _ _ c.in_ok-push_word.ensures.written
    (then_spaced _ _ _ _ _ c.in_ok-push_silo.ensures.written
    (then_spaced _ _ _ _ _ (c.in_ok-push_word-2.ensures.written
    ∙ ap (λ word. c.push_silo.new.out.items ++ spaced (word ∷ [])) c.status_word.ensures)
    c.in_ok-push_figures.ensures.written))

pub returns-clause-kept : goal.returns-clause-kept
returns-clause-kept c =
    begins_with_the_first _ _ _ (begins_with_the_first _ _ _ (begins_with_the_first _ _ _ c.push_word.ensures.kept c.push_silo.ensures.kept)
    c.push_word-2.ensures.kept) c.push_figures.ensures.kept
