use Rattle.std.proofs.Common.{ap, ◌∙◌, ◌++◌}
use Rattle.process_rules.specs.LetterText.{body_words}
use Rattle.script_lines.specs.Spaced.{spaced}
use Rattle.script_lines.proofs.Fronts.{begins_with_the_first}
use Rattle.script_lines.proofs.SpacedWords.{then_spaced}
use Rattle.process_lines.proofs.write.push_letter.Goals as goal

pub returns-in_err-push_body-clause-kept : goal.returns-in_err-push_body-clause-kept
returns-in_err-push_body-clause-kept c = begins_with_the_first _ _ _ c.push_front.ensures.kept c.push_body.ensures.kept

pub returns-clause-written : goal.returns-clause-written
returns-clause-written c =
    then_spaced _ _ _ _ _ c.in_ok-push_front.ensures.written
    (c.in_ok-push_body.ensures.written ∙ ap (λ body. c.push_front.new.out.items ++ spaced (body_words body)) c.body.ensures)

pub returns-clause-kept : goal.returns-clause-kept
returns-clause-kept c = begins_with_the_first _ _ _ c.push_front.ensures.kept c.push_body.ensures.kept
