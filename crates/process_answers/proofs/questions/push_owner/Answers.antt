use Rattle.std.proofs.Common.{ap, sym, ◌∙◌, ◌++◌}
use Rattle.script_rules.specs.Show.{owner_words}
use Rattle.script_lines.specs.Spaced.{spaced}
use Rattle.script_lines.proofs.Fronts.{begins_with_the_first}
use Rattle.script_lines.proofs.SpacedWords.{then_spaced}
use Rattle.process_answers.proofs.questions.push_owner.Goals as goal

pub returns-in_err-push_number-clause-kept : goal.returns-in_err-push_number-clause-kept
returns-in_err-push_number-clause-kept c = begins_with_the_first _ _ _ c.push_silo.ensures.kept c.push_number.ensures.kept

pub returns-clause-written : goal.returns-clause-written
returns-clause-written c =
    then_spaced _ _ _ _ _ c.in_ok-push_silo.ensures.written
    c.in_ok-push_number.ensures.written
    ∙ ap (λ owner. c.args.out.now.items ++ spaced (owner_words owner)) (sym c.in-Some.is)

pub returns-clause-kept : goal.returns-clause-kept
returns-clause-kept c = begins_with_the_first _ _ _ c.push_silo.ensures.kept c.push_number.ensures.kept
