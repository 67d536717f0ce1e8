use Rattle.std.proofs.Common.{ap, ◌∙◌, ◌++◌, ◌∷◌, [], codes}
use Rattle.std.specs.Fmt.{decimal}
use Rattle.script_lines.specs.Spaced.{spaced}
use Rattle.script_lines.proofs.Fronts.{begins_with_the_first}
use Rattle.script_lines.proofs.SpacedWords.{then_spaced}
use Rattle.script_lines.proofs.question_lines.push_owner_words.Goals as goal

pub returns-in_err-push_point-clause-kept : goal.returns-in_err-push_point-clause-kept
returns-in_err-push_point-clause-kept c = begins_with_the_first _ _ _ c.push_named.ensures.kept c.push_point.ensures.kept

pub returns-clause-written : goal.returns-clause-written
returns-clause-written c =
    then_spaced _ _ _ _ _ (c.in_ok-push_named.ensures.written
    ∙ ap (λ hash. c.args.out.now.items ++ spaced (codes "owner" ∷ decimal hash ∷ [])) c.from.ensures)
    c.in_ok-push_point.ensures.written

pub returns-clause-kept : goal.returns-clause-kept
returns-clause-kept c = begins_with_the_first _ _ _ c.push_named.ensures.kept c.push_point.ensures.kept
