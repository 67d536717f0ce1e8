use Rattle.std.proofs.Common.{ap, ◌∙◌, ◌++◌, ◌∷◌, []}
use Rattle.std.specs.Fmt.{decimal}
use Rattle.script_lines.specs.Spaced.{spaced}
use Rattle.script_lines.proofs.Fronts.{begins_with_the_first}
use Rattle.script_lines.proofs.SpacedWords.{then_spaced}
use Rattle.process_answers.proofs.telling.push_waits.Goals as goal

pub returns-in_err-push_waiting-clause-kept : goal.returns-in_err-push_waiting-clause-kept
returns-in_err-push_waiting-clause-kept c = begins_with_the_first _ _ _ c.push_delivered.ensures.kept c.push_waiting.ensures.kept

pub returns-in_err-push_number-clause-kept : goal.returns-in_err-push_number-clause-kept
returns-in_err-push_number-clause-kept c =
    begins_with_the_first _ _ _ (begins_with_the_first _ _ _ c.push_delivered.ensures.kept c.push_waiting.ensures.kept)
    c.push_number.ensures.kept

pub returns-clause-written : goal.returns-clause-written
returns-clause-written c =
    then_spaced _ _ _ _ _ c.in_ok-push_delivered.ensures.written
    (then_spaced _ _ _ _ _ c.in_ok-push_waiting.ensures.written
    (c.in_ok-push_number.ensures.written ∙ ap (λ number. c.push_waiting.new.out.items ++ spaced (decimal number ∷ []))
    (c.from.ensures ∙ c.number.ensures)))

pub returns-clause-kept : goal.returns-clause-kept
returns-clause-kept c =
    begins_with_the_first _ _ _ (begins_with_the_first _ _ _ c.push_delivered.ensures.kept c.push_waiting.ensures.kept)
    c.push_number.ensures.kept
