use Rattle.std.proofs.Common.{ap, ◌∙◌, ◌++◌, ◌∷◌, []}
use Rattle.std.specs.Fmt.{decimal}
use Rattle.hex.specs.Hex.{encode_lower}
use Rattle.ring_range.specs.Text.{range_text}
use Rattle.script_lines.specs.Spaced.{spaced}
use Rattle.script_lines.proofs.Fronts.{begins_with_the_first}
use Rattle.script_lines.proofs.SpacedWords.{then_spaced}
use Rattle.process_lines.proofs.write.push_page_front.Goals as goal

pub returns-in_err-push_number-clause-kept : goal.returns-in_err-push_number-clause-kept
returns-in_err-push_number-clause-kept c = begins_with_the_first _ _ _ c.push_range.ensures.kept c.push_number.ensures.kept

pub returns-in_err-push_number-2-clause-kept : goal.returns-in_err-push_number-2-clause-kept
returns-in_err-push_number-2-clause-kept c =
    begins_with_the_first _ _ _ (begins_with_the_first _ _ _ c.push_range.ensures.kept c.push_number.ensures.kept)
    c.push_number-2.ensures.kept

pub returns-in_err-push_word-clause-kept : goal.returns-in_err-push_word-clause-kept
returns-in_err-push_word-clause-kept c =
    begins_with_the_first _ _ _ (begins_with_the_first _ _ _
    (begins_with_the_first _ _ _ c.push_range.ensures.kept c.push_number.ensures.kept) c.push_number-2.ensures.kept)
    c.push_word.ensures.kept

pub returns-clause-written : goal.returns-clause-written
returns-clause-written c =
    then_spaced _ _ _ _ _ (c.in_ok-push_range.ensures.written
    ∙ ap (λ range. c.args.out.now.items ++ spaced (range_text range ∷ [])) c.range.ensures)
    (then_spaced _ _ _ _ _ (c.in_ok-push_number.ensures.written
    ∙ ap (λ page. c.push_range.new.out.items ++ spaced (decimal page ∷ [])) c.page.ensures)
    (then_spaced _ _ _ _ _ (c.in_ok-push_number-2.ensures.written
    ∙ ap (λ pages. c.push_number.new.out.items ++ spaced (decimal pages ∷ [])) c.pages.ensures)
    (c.in_ok-push_word.ensures.written ∙ ap (λ word. c.push_number-2.new.out.items ++ spaced (word ∷ []))
    (c.digest_text.ensures ∙ ap encode_lower c.digest.ensures))))

pub returns-clause-kept : goal.returns-clause-kept
returns-clause-kept c =
    begins_with_the_first _ _ _ (begins_with_the_first _ _ _
    (begins_with_the_first _ _ _ c.push_range.ensures.kept c.push_number.ensures.kept) c.push_number-2.ensures.kept)
    c.push_word.ensures.kept
