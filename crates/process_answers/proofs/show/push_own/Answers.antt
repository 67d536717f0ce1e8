use Rattle.std.proofs.Common.{ap, ◌∙◌, ◌++◌, ◌∷◌, [], codes, length}
use Rattle.std.specs.Fmt.{decimal}
use Rattle.silo_address.specs.SiloText.{silo_text}
use Rattle.membership_view.specs.View.{ViewValue}
use Rattle.directory_rules.specs.State.{Host, Node}
use Rattle.script_lines.specs.Spaced.{spaced}
use Rattle.process_rules.specs.Show.{own_word}
use Rattle.script_lines.proofs.Fronts.{begins_with_the_first}
use Rattle.script_lines.proofs.SpacedWords.{then_spaced}
use Rattle.process_answers.proofs.show.push_own.Goals as goal

pub returns-in_err-push_silo-clause-kept : goal.returns-in_err-push_silo-clause-kept
returns-in_err-push_silo-clause-kept c = begins_with_the_first _ _ _ c.push_word.ensures.kept c.push_silo.ensures.kept

pub returns-in_err-push_word-2-clause-kept : goal.returns-in_err-push_word-2-clause-kept
returns-in_err-push_word-2-clause-kept c =
    begins_with_the_first _ _ _ (begins_with_the_first _ _ _ c.push_word.ensures.kept c.push_silo.ensures.kept) c.push_word-2.ensures.kept

pub returns-in_err-push_named-clause-kept : goal.returns-in_err-push_named-clause-kept
returns-in_err-push_named-clause-kept c =
    begins_with_the_first _ _ _ (begins_with_the_first _ _ _ (begins_with_the_first _ _ _ c.push_word.ensures.kept c.push_silo.ensures.kept)
    c.push_word-2.ensures.kept) c.push_named.ensures.kept

pub returns-in_err-push_named-2-clause-kept : goal.returns-in_err-push_named-2-clause-kept
returns-in_err-push_named-2-clause-kept c =
    begins_with_the_first _ _ _ (begins_with_the_first _ _ _
    (begins_with_the_first _ _ _ (begins_with_the_first _ _ _ c.push_word.ensures.kept c.push_silo.ensures.kept)
    c.push_word-2.ensures.kept) c.push_named.ensures.kept) c.push_named-2.ensures.kept

pub returns-clause-written : goal.returns-clause-written
returns-clause-written c =
    then_spaced _ _ _ _ _ c.in_ok-push_word.ensures.written
    (then_spaced _ _ _ _ _ (c.in_ok-push_silo.ensures.written
    ∙ ap (λ silo. c.push_word.new.out.items ++ spaced (silo_text silo ∷ [])) c.address.ensures)
    (then_spaced _ _ _ _ _ (c.in_ok-push_word-2.ensures.written
    ∙ ap (λ word. c.push_silo.new.out.items ++ spaced (word ∷ [])) (c.own_word.ensures ∙ ap own_word c.status.ensures))
    (then_spaced _ _ _ _ _ (c.in_ok-push_named.ensures.written
    ∙ ap (λ version. c.push_word-2.new.out.items ++ spaced (codes "seen" ∷ decimal version ∷ []))
    (c.version.ensures ∙ ap (λ (view : ViewValue). view.version) (c.view.ensures ∙ ap (λ (node : Node). node.view) c.node.ensures)))
    (c.in_ok-push_named-2.ensures.written ∙ ap (λ count. c.push_named.new.out.items ++ spaced (codes "held" ∷ decimal count ∷ []))
    (c.held_count.ensures ∙ ap (λ (host : Host). length host.held) (c.host.ensures ∙ ap (λ (node : Node). node.host) c.node-2.ensures))))))

pub returns-clause-kept : goal.returns-clause-kept
returns-clause-kept c =
    begins_with_the_first _ _ _ (begins_with_the_first _ _ _
    (begins_with_the_first _ _ _ (begins_with_the_first _ _ _ c.push_word.ensures.kept c.push_silo.ensures.kept)
    c.push_word-2.ensures.kept) c.push_named.ensures.kept) c.push_named-2.ensures.kept
