use Rattle.std.proofs.Common.{ap, ◌∙◌, ◌++◌}
use Rattle.process_rules.specs.LetterText.{entries_words}
use Rattle.script_lines.specs.Spaced.{spaced}
use Rattle.script_lines.proofs.Fronts.{begins_with_the_first}
use Rattle.script_lines.proofs.SpacedWords.{then_spaced}
use Rattle.process_lines.proofs.write.push_page.Goals as goal

pub returns-in_err-push_entries-clause-kept : goal.returns-in_err-push_entries-clause-kept
returns-in_err-push_entries-clause-kept c = begins_with_the_first _ _ _ c.push_page_front.ensures.kept c.push_entries.ensures.kept

pub returns-clause-written : goal.returns-clause-written
returns-clause-written c =
    then_spaced _ _ _ _ _ c.in_ok-push_page_front.ensures.written
    (c.in_ok-push_entries.ensures.written ∙ ap (λ entries. c.push_page_front.new.out.items ++ spaced (entries_words entries))
    c.entries.ensures)

pub returns-clause-kept : goal.returns-clause-kept
returns-clause-kept c = begins_with_the_first _ _ _ c.push_page_front.ensures.kept c.push_entries.ensures.kept
