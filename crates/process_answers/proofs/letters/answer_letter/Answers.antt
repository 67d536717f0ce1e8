use Rattle.std.proofs.Common.{◌≡◌, true, ap, ◌∙◌, rules}
use Rattle.std.specs.Prelude.{IsOk}
use Rattle.silo_address.specs.Silo.{silo_eq}
use Rattle.membership_view.specs.View.{ViewValue}
use Rattle.directory_rules.specs.State.{Node}
use Rattle.directory_letters.specs.LetterModel.{body_of}
use Rattle.directory_silo.specs.Numbers.{silo_refusal_number}
use Rattle.process_answers.proofs.Received.{letter_refused, letter_taken}
use Rattle.process_answers.proofs.letters.answer_letter.Goals as goal

pub returns-in_ok-write_letters-in-Ok-clause-answered : goal.returns-in_ok-write_letters-in-Ok-clause-answered
returns-in_ok-write_letters-in-Ok-clause-answered c =
    let own : silo_eq c.args.letter.now.to c.args.silo.now.node.host.silo ≡ true = search rules in
    letter_taken c.args.letter.now c.args.silo.now c.receive.new.self c.of_letter-telling.result c.host.result.now c.version-seen.result
    (body_of c.body.result.now) c.address-address.result c.kind.result c.in-Ok.answer c.deref.result.now
    c.args.out.now.items c.write_received.new.out.items c.write_letters.new.out.items own c.in-Ok.ensures.told c.in-Ok.ensures.membership
    c.of_letter-telling.ensures (c.host.ensures ∙ ap (λ (node : Node). node.host) c.node-2.ensures)
    (c.version-seen.ensures ∙ ap (λ (view : ViewValue). view.version) (c.view.ensures ∙ ap (λ (node : Node). node.view) c.node.ensures))
    c.body.ensures c.address-address.ensures c.kind.ensures c.deref.ensures.value
    c.in_ok-write_received-in-Ok.ensures.written c.in_ok-write_letters-in-Ok.ensures.written

pub returns-in_ok-write_refused-in-Err-clause-answered : goal.returns-in_ok-write_refused-in-Err-clause-answered
returns-in_ok-write_refused-in-Err-clause-answered c =
    let own : silo_eq c.args.letter.now.to c.args.silo.now.node.host.silo ≡ true = search rules in
    letter_refused c.args.letter.now c.args.silo.now c.receive.new.self IsOk (silo_refusal_number c.in-Err.refusal) c.args.out.now.items
    c.write_refused.new.out.items own
    c.in-Err.ensures.told c.in_ok-write_refused-in-Err.ensures.written c.in-Err.ensures.unchanged
