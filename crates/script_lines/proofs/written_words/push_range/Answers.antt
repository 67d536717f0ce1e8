use Rattle.std.proofs.Common.{ap, ◌∙◌, ◌++◌, ◌∷◌, []}
use Rattle.std.specs.Fmt.{decimal}
use Rattle.ring_range.specs.Text.{plus_sign}
use Rattle.texts.specs.Words.{space}
use Rattle.script_lines.proofs.Fronts.{begins_with_the_first}
use Rattle.script_lines.proofs.Texts.{range_written}
use Rattle.script_lines.proofs.written_words.push_range.Goals as goal

pub returns-in_err-push_marked_number-2-clause-kept : goal.returns-in_err-push_marked_number-2-clause-kept
returns-in_err-push_marked_number-2-clause-kept c =
    begins_with_the_first _ _ _ c.push_marked_number.ensures.kept c.push_marked_number-2.ensures.kept

pub returns-clause-written : goal.returns-clause-written
returns-clause-written c =
    range_written _ _ _ c.args.range.now
    (c.in_ok-push_marked_number.ensures.written ∙ ap (λ start. c.args.out.now.items ++ (decimal start ++ plus_sign ∷ []))
    (c.from.ensures ∙ c.start.ensures))
    (c.in_ok-push_marked_number-2.ensures.written ∙ ap (λ size. c.push_marked_number.new.out.items ++ (decimal size ++ space ∷ []))
    c.size.ensures.value)

pub returns-clause-kept : goal.returns-clause-kept
returns-clause-kept c = begins_with_the_first _ _ _ c.push_marked_number.ensures.kept c.push_marked_number-2.ensures.kept
