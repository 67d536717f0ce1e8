use Rattle.script_lines.proofs.Fronts.{begins_with_the_first}
use Rattle.script_lines.proofs.SpacedWords.{then_spaced}
use Rattle.script_lines.proofs.event_lines.push_change.Goals as goal

pub returns-in_err-push_word-clause-kept : goal.returns-in_err-push_word-clause-kept
returns-in_err-push_word-clause-kept c = begins_with_the_first _ _ _ c.push_named.ensures.kept c.push_word.ensures.kept

pub returns-in_err-push_silo-clause-kept : goal.returns-in_err-push_silo-clause-kept
returns-in_err-push_silo-clause-kept c =
    begins_with_the_first _ _ _ (begins_with_the_first _ _ _ c.push_named.ensures.kept c.push_word.ensures.kept) c.push_silo.ensures.kept

pub returns-clause-written : goal.returns-clause-written
returns-clause-written c =
    then_spaced _ _ _ _ _ c.in_ok-push_named.ensures.written
    (then_spaced _ _ _ _ _ c.in_ok-push_word.ensures.written
    c.in_ok-push_silo.ensures.written)

pub returns-clause-kept : goal.returns-clause-kept
returns-clause-kept c =
    begins_with_the_first _ _ _ (begins_with_the_first _ _ _ c.push_named.ensures.kept c.push_word.ensures.kept) c.push_silo.ensures.kept
