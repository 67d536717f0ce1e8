use Rattle.std.proofs.Common.{ap, ◌∙◌, ◌++◌, ◌∷◌, []}
use Rattle.std.specs.Fmt.{decimal}
use Rattle.silo_address.specs.SiloText.{silo_text}
use Rattle.script_rules.specs.Lines.{kind_word}
use Rattle.script_lines.specs.Spaced.{spaced}
use Rattle.script_lines.proofs.Fronts.{begins_with_the_first}
use Rattle.script_lines.proofs.SpacedWords.{then_spaced}
use Rattle.process_lines.proofs.write.push_front.Goals as goal

pub returns-in_err-push_silo-clause-kept : goal.returns-in_err-push_silo-clause-kept
returns-in_err-push_silo-clause-kept c = begins_with_the_first _ _ _ c.push_word.ensures.kept c.push_silo.ensures.kept

pub returns-in_err-push_silo-2-clause-kept : goal.returns-in_err-push_silo-2-clause-kept
returns-in_err-push_silo-2-clause-kept c =
    begins_with_the_first _ _ _ (begins_with_the_first _ _ _ c.push_word.ensures.kept c.push_silo.ensures.kept) c.push_silo-2.ensures.kept

pub returns-in_err-push_number-clause-kept : goal.returns-in_err-push_number-clause-kept
returns-in_err-push_number-clause-kept c =
    begins_with_the_first _ _ _ (begins_with_the_first _ _ _ (begins_with_the_first _ _ _ c.push_word.ensures.kept c.push_silo.ensures.kept)
    c.push_silo-2.ensures.kept) c.push_number.ensures.kept

pub returns-in_err-push_word-2-clause-kept : goal.returns-in_err-push_word-2-clause-kept
returns-in_err-push_word-2-clause-kept c =
    begins_with_the_first _ _ _ (begins_with_the_first _ _ _
    (begins_with_the_first _ _ _ (begins_with_the_first _ _ _ c.push_word.ensures.kept c.push_silo.ensures.kept)
    c.push_silo-2.ensures.kept) c.push_number.ensures.kept) c.push_word-2.ensures.kept

pub returns-clause-written : goal.returns-clause-written
returns-clause-written c =
    then_spaced _ _ _ _ _ c.in_ok-push_word.ensures.written
    (then_spaced _ _ _ _ _ (c.in_ok-push_silo.ensures.written
    ∙ ap (λ silo. c.push_word.new.out.items ++ spaced (silo_text silo ∷ [])) c.from.ensures)
    (then_spaced _ _ _ _ _ (c.in_ok-push_silo-2.ensures.written
    ∙ ap (λ silo. c.push_silo.new.out.items ++ spaced (silo_text silo ∷ [])) c.to.ensures)
    (then_spaced _ _ _ _ _ (c.in_ok-push_number.ensures.written
    ∙ ap (λ version. c.push_silo-2.new.out.items ++ spaced (decimal version ∷ [])) c.version.ensures)
    (c.in_ok-push_word-2.ensures.written ∙ ap (λ word. c.push_number.new.out.items ++ spaced (word ∷ []))
    (c.kind_word.ensures ∙ ap kind_word c.kind.ensures)))))

pub returns-clause-kept : goal.returns-clause-kept
returns-clause-kept c =
    begins_with_the_first _ _ _ (begins_with_the_first _ _ _
    (begins_with_the_first _ _ _ (begins_with_the_first _ _ _ c.push_word.ensures.kept c.push_silo.ensures.kept)
    c.push_silo-2.ensures.kept) c.push_number.ensures.kept) c.push_word-2.ensures.kept
