use Rattle.std.proofs.Common.{ap, ◌∙◌, ◌++◌, ◌∷◌, []}
use Rattle.ring_range.specs.Text.{range_text}
use Rattle.process_rules.specs.LetterText.{after_words, end_word, entries_words}
use Rattle.script_lines.specs.Spaced.{spaced}
use Rattle.script_lines.proofs.Fronts.{begins_with_the_first}
use Rattle.script_lines.proofs.SpacedWords.{then_spaced}
use Rattle.process_lines.proofs.write.push_report.Goals as goal

pub returns-in_err-push_after-clause-kept : goal.returns-in_err-push_after-clause-kept
returns-in_err-push_after-clause-kept c = begins_with_the_first _ _ _ c.push_range.ensures.kept c.push_after.ensures.kept

pub returns-in_err-push_word-clause-kept : goal.returns-in_err-push_word-clause-kept
returns-in_err-push_word-clause-kept c =
    begins_with_the_first _ _ _ (begins_with_the_first _ _ _ c.push_range.ensures.kept c.push_after.ensures.kept) c.push_word.ensures.kept

pub returns-in_err-push_entries-clause-kept : goal.returns-in_err-push_entries-clause-kept
returns-in_err-push_entries-clause-kept c =
    begins_with_the_first _ _ _ (begins_with_the_first _ _ _
    (begins_with_the_first _ _ _ c.push_range.ensures.kept c.push_after.ensures.kept)
    c.push_word.ensures.kept) c.push_entries.ensures.kept

pub returns-clause-written : goal.returns-clause-written
returns-clause-written c =
    then_spaced _ _ _ _ _ (c.in_ok-push_range.ensures.written
    ∙ ap (λ range. c.args.out.now.items ++ spaced (range_text range ∷ [])) c.range.ensures)
    (then_spaced _ _ _ _ _ (c.in_ok-push_after.ensures.written
    ∙ ap (λ after. c.push_range.new.out.items ++ spaced (after_words after)) c.after.ensures)
    (then_spaced _ _ _ _ _ (c.in_ok-push_word.ensures.written
    ∙ ap (λ word. c.push_after.new.out.items ++ spaced (word ∷ [])) (c.end_word.ensures ∙ ap end_word c.is_last.ensures))
    (c.in_ok-push_entries.ensures.written ∙ ap (λ entries. c.push_word.new.out.items ++ spaced (entries_words entries)) c.entries.ensures)))

pub returns-clause-kept : goal.returns-clause-kept
returns-clause-kept c =
    begins_with_the_first _ _ _ (begins_with_the_first _ _ _
    (begins_with_the_first _ _ _ c.push_range.ensures.kept c.push_after.ensures.kept)
    c.push_word.ensures.kept) c.push_entries.ensures.kept
