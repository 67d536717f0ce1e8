use Rattle.std.proofs.Common.{ap, sym, ◌∙◌, ◌++◌, subst, ◌≡◌}
use Rattle.std.specs.Prelude.{OnOk}
use Rattle.script_lines.specs.Shown.{words_of_state}
use Rattle.script_lines.specs.Spaced.{spaced}
use Rattle.script_lines.proofs.Fronts.{begins_with_the_first}
use Rattle.script_lines.proofs.SpacedWords.{then_spaced}
use Rattle.script_lines.proofs.show_lines.push_state.Goals as goal

pub returns-in_default-clause-written : goal.returns-in_default-clause-written
returns-in_default-clause-written c =
    subst (λ entries. OnOk c.push_word.result (c.push_word.new.out.items ≡ c.args.out.now.items ++ spaced (words_of_state entries)))
    (sym c.in_default.is) c.push_word.ensures.written

pub returns-in_err-push_named-clause-kept : goal.returns-in_err-push_named-clause-kept
returns-in_err-push_named-clause-kept c = begins_with_the_first _ _ _ c.push_word-2.ensures.kept c.push_named.ensures.kept

pub returns-clause-written : goal.returns-clause-written
returns-clause-written c =
    then_spaced _ _ _ _ _ c.in_ok-push_word.ensures.written
    c.in_ok-push_named.ensures.written
    ∙ ap (λ entries. c.args.out.now.items ++ spaced (words_of_state entries)) (sym c.in-Some.is)

pub returns-clause-kept : goal.returns-clause-kept
returns-clause-kept c = begins_with_the_first _ _ _ c.push_word-2.ensures.kept c.push_named.ensures.kept
