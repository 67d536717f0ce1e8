use Rattle.std.proofs.Common.{◌≡◌, true, List, Ok, Option, Some, refl, sym, ◌∙◌, ap, subst, arith}
use Rattle.std.specs.Prelude.{IsOk}
use Rattle.std.specs.Option.{option_map}
use Rattle.std.proofs.lemmas.Option.{same_Some}
use Rattle.silo_address.specs.Silo.{Silo}
use Rattle.directory_rules.specs.declared.LetterKind.{LetterKind}
use Rattle.directory_rules.specs.declared.outcome.Happening.TheVariants.{Delivered}
use Rattle.directory_rules.specs.State.{Letter, Node, World}
use Rattle.directory_rules.specs.Mail.{has_room_for, letter_of, span_of, with_delivered}
use Rattle.directory_rules.specs.Happens.{deliver, node_of}
use Rattle.directory_node.specs.Follows.{RefusesBy}
use Rattle.letter_mail.specs.MailedModel.{letter_seen}
use Rattle.letter_mail.specs.declared.MailedLetter.{MailedLetter}
use Rattle.directory_node.specs.Plans.{changed}
use Rattle.directory_core.specs.Steps.{after_step}
use Rattle.directory_core.specs.Whole.{IsWorld}
use Rattle.directory_core.proofs.Happenings.{delivered_told, delivery_refused, leaves_delivered}
use Rattle.directory_core.proofs.world.World.deliver.Goals as goal

pub returns-in_default-plan_letter-clause-told : goal.returns-in_default-plan_letter-clause-told
returns-in_default-plan_letter-clause-told c =
    let letter = c.letter-letter.result.now in
    let node = c.in-Some-node.node.now in
    subst (λ n. RefusesBy IsOk n (deliver c.args.self.now c.args.number)) (sym c.refused_sending.ensures.number)
    (delivery_refused c.args.self.now c.args.number letter node c.answer_count.result
    (sym c.letter-found.ensures ∙ ap (λ (m : Option MailedLetter). option_map letter_seen m) c.in-Some.is
    ∙ ap (λ (l : Letter). Some l) (sym c.letter-letter.ensures))
    (ap (λ (s : Silo). node_of c.args.self.now s) (sym c.to-to.ensures) ∙ sym c.in-Some-node.ensures)
    (c.in_default-plan_letter.ensures.answers ∙ sym c.answer_count.ensures))

pub returns-in-Err-clause-told : goal.returns-in-Err-clause-told
returns-in-Err-clause-told c =
    let letter = c.letter-letter.result.now in
    let node = c.in-Some-node.node.now in
    let letters = c.in-Ok.plan.letters.items in
    let room : has_room_for c.args.self.now c.deref.result.now ≡ true = grind arith in
    subst IsOk (sym (delivered_told c.args.self.now c.args.number letter node (changed c.in-Ok.plan.change node) letters c.in-Ok.plan.effect
    _ (sym c.letter-found.ensures ∙ ap (λ (m : Option MailedLetter). option_map letter_seen m) c.in-Some.is
    ∙ ap (λ (l : Letter). Some l) (sym c.letter-letter.ensures))
    (ap (λ (s : Silo). node_of c.args.self.now s) (sym c.to-to.ensures) ∙ sym c.in-Some-node.ensures)
    (sym c.in-Ok.ensures.planned)
    (ap (λ (l : List Letter). has_room_for c.args.self.now l) (sym c.deref.ensures.value) ∙ room) refl)) refl

pub returns-in-Ok-receive-clause-told : goal.returns-in-Ok-receive-clause-told
returns-in-Ok-receive-clause-told c =
    let letter = c.letter-letter.result.now in
    let node = c.in-Some-node.node.now in
    let letters = c.in-Ok.plan.letters.items in
    let after = changed c.in-Ok.plan.change node in
    let room : has_room_for c.args.self.now c.deref.result.now ≡ true = grind arith in
    delivered_told c.args.self.now c.args.number letter node after letters c.in-Ok.plan.effect c.span_of-sent.result
    (sym c.letter-found.ensures ∙ ap (λ (m : Option MailedLetter). option_map letter_seen m) c.in-Some.is
    ∙ ap (λ (l : Letter). Some l) (sym c.letter-letter.ensures))
    (ap (λ (s : Silo). node_of c.args.self.now s) (sym c.to-to.ensures) ∙ sym c.in-Some-node.ensures)
    (sym c.in-Ok.ensures.planned)
    (ap (λ (l : List Letter). has_room_for c.args.self.now l) (sym c.deref.ensures.value) ∙ room)
    (c.span_of-sent.ensures ∙ ap (λ (l : List Letter). span_of c.args.self.now l) c.deref-2.ensures.value)
    ∙ ap (λ (k : LetterKind). Ok (record {
      outcome = record { happening = Delivered c.args.number k c.in-Ok.plan.effect; sent = c.span_of-sent.result };
      world = after_step (with_delivered c.args.self.now c.args.number letter) letter.to after letters;
    })) (sym c.kind-kind.ensures)
    ∙ ap (λ (w : World). Ok (record {
      outcome = record { happening = Delivered c.args.number c.kind-kind.result c.in-Ok.plan.effect; sent = c.span_of-sent.result };
      world = w;
    })) (ap (λ (s : Silo). after_step (with_delivered c.args.self.now c.args.number letter) s after letters) (sym c.to-to.ensures)
    ∙ sym (c.in-Ok-receive.ensures.made letter node (sym c.letter-found.ensures
    ∙ ap (λ (m : Option MailedLetter). option_map letter_seen m) c.in-Some.is
    ∙ ap (λ (l : Letter). Some l) (sym c.letter-letter.ensures)) (sym c.in-Some-node.ensures)))

pub receive-requires-clause-leaves : goal.receive-requires-clause-leaves
receive-requires-clause-leaves c = λ l n l_is n_is.
    let world = c.args.self.now in
    let letter = c.letter-letter.result.now in
    let node = c.in-Some-node.node.now in
    let letters = c.in-Ok.plan.letters.items in
    let room : has_room_for world c.deref.result.now ≡ true = grind arith in
    let found : letter_of world c.args.number ≡ Some letter = sym c.letter-found.ensures ∙ ap (λ (m : Option MailedLetter). option_map letter_seen m) c.in-Some.is ∙ ap (λ (l : Letter). Some l) (sym c.letter-letter.ensures) in
    let there : node_of world c.to-to.result ≡ Some node = sym c.in-Some-node.ensures in
    subst (λ (x : Node). IsWorld (after_step (with_delivered world c.args.number l) c.to-to.result (changed c.in-Ok.plan.change x) letters))
    (same_Some node n (sym there ∙ n_is))
    (subst (λ (x : Letter). IsWorld (after_step (with_delivered world c.args.number x) c.to-to.result (changed c.in-Ok.plan.change node)
    letters)) (same_Some letter l (sym found ∙ l_is))
    (subst (λ (s : Silo). IsWorld (after_step (with_delivered world c.args.number letter) s (changed c.in-Ok.plan.change node) letters))
    (sym c.to-to.ensures)
    (leaves_delivered world c.args.number letter node (changed c.in-Ok.plan.change node) letters c.in-Ok.plan.effect found
    (ap (λ (s : Silo). node_of world s) (sym c.to-to.ensures) ∙ there) (sym c.in-Ok.ensures.planned)
    (ap (λ (x : List Letter). has_room_for world x) (sym c.deref.ensures.value) ∙ room) c.requires.leaves)))
