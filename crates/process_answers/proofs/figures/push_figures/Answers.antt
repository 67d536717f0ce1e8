use Rattle.script_lines.proofs.Fronts.{begins_with_the_first}
use Rattle.script_lines.proofs.SpacedWords.{then_spaced}
use Rattle.process_answers.proofs.figures.push_figures.Goals as goal

pub returns-in_err-push_activations-clause-kept : goal.returns-in_err-push_activations-clause-kept
returns-in_err-push_activations-clause-kept c = begins_with_the_first _ _ _ c.push_versions.ensures.kept c.push_activations.ensures.kept

pub returns-in_err-push_waiting-clause-kept : goal.returns-in_err-push_waiting-clause-kept
returns-in_err-push_waiting-clause-kept c =
    begins_with_the_first _ _ _ (begins_with_the_first _ _ _ c.push_versions.ensures.kept c.push_activations.ensures.kept)
    c.push_waiting.ensures.kept

pub returns-clause-written : goal.returns-clause-written
returns-clause-written c =
    then_spaced _ _ _ _ _ c.in_ok-push_versions.ensures.written
    (then_spaced _ _ _ _ _ c.in_ok-push_activations.ensures.written
    c.in_ok-push_waiting.ensures.written)

pub returns-clause-kept : goal.returns-clause-kept
returns-clause-kept c =
    begins_with_the_first _ _ _ (begins_with_the_first _ _ _ c.push_versions.ensures.kept c.push_activations.ensures.kept)
    c.push_waiting.ensures.kept
