use Rattle.std.proofs.Common.{◌≡◌, true, List, Ok, Some, refl, sym, ◌∙◌, ap, subst, arith}
use Rattle.std.specs.Prelude.{IsOk}
use Rattle.std.proofs.lemmas.Option.{same_Some}
use Rattle.silo_address.specs.Silo.{Silo}
use Rattle.directory_rules.specs.declared.LetterKind.{LetterKind}
use Rattle.directory_rules.specs.declared.outcome.Happening.TheVariants.{Delivered}
use Rattle.directory_rules.specs.State.{Letter, Node, World}
use Rattle.directory_rules.specs.Letter.{kind_of}
use Rattle.directory_rules.specs.Mail.{has_room_for, letter_of, span_of, with_delivered}
use Rattle.directory_rules.specs.Happens.{node_of}
use Rattle.directory_node.specs.Plans.{Fits, changed}
use Rattle.directory_core.specs.Steps.{after_step}
use Rattle.directory_core.specs.Whole.{IsWorld}
use Rattle.directory_core.proofs.Happenings.{delivered_told, leaves_delivered}
use Rattle.directory_core.proofs.world.World.take_with.Goals as goal

pub receive-requires-clause-fits : goal.receive-requires-clause-fits
receive-requires-clause-fits c = λ n n_is.
    let world = c.args.self.now in
    let its = c.requires.its in
    let found : letter_of world c.args.number ≡ Some c.letter-letter.result.now = sym c.in-Some.ensures ∙ ap (λ (x : Letter). Some x) (sym c.letter-letter.ensures) in
    let to_is : c.to-to.result ≡ its.letter.to = c.to-to.ensures ∙ ap (λ (x : Letter). x.to) (same_Some c.letter-letter.result.now its.letter (sym found ∙ its.mailed)) in
    subst (λ (x : Node). Fits c.args.plan.change x) (same_Some its.node n
    (sym its.live ∙ ap (λ (s : Silo). node_of world s) (sym to_is) ∙ n_is)) its.fits

pub receive-requires-clause-leaves : goal.receive-requires-clause-leaves
receive-requires-clause-leaves c = λ l n l_is n_is.
    let world = c.args.self.now in
    let its = c.requires.its in
    let change = c.args.plan.change in
    let letters = c.args.plan.letters.items in
    let room : has_room_for world c.deref.result.now ≡ true = grind arith in
    let found : letter_of world c.args.number ≡ Some c.letter-letter.result.now = sym c.in-Some.ensures ∙ ap (λ (x : Letter). Some x) (sym c.letter-letter.ensures) in
    let to_is : c.to-to.result ≡ its.letter.to = c.to-to.ensures ∙ ap (λ (x : Letter). x.to) (same_Some c.letter-letter.result.now its.letter (sym found ∙ its.mailed)) in
    subst (λ (x : Node). IsWorld (after_step (with_delivered world c.args.number l) c.to-to.result (changed change x) letters))
    (same_Some its.node n (sym its.live ∙ ap (λ (s : Silo). node_of world s) (sym to_is) ∙ n_is))
    (subst (λ (x : Letter). IsWorld (after_step (with_delivered world c.args.number x) c.to-to.result (changed change its.node) letters))
    (same_Some its.letter l (sym its.mailed ∙ l_is))
    (subst (λ (s : Silo). IsWorld (after_step (with_delivered world c.args.number its.letter) s (changed change its.node) letters))
    (sym to_is)
    (leaves_delivered world c.args.number its.letter its.node (changed change its.node) letters c.args.plan.effect its.mailed its.live
    (sym its.its)
    (ap (λ (x : List Letter). has_room_for world x) (sym c.deref.ensures.value) ∙ room) c.requires.leaves)))

pub returns-in-Err-clause-told : goal.returns-in-Err-clause-told
returns-in-Err-clause-told c =
    let world = c.args.self.now in
    let its = c.requires.its in
    let letters = c.args.plan.letters.items in
    let room : has_room_for world c.deref.result.now ≡ true = grind arith in
    subst IsOk (sym (delivered_told world c.args.number its.letter its.node (changed c.args.plan.change its.node) letters c.args.plan.effect
    _ its.mailed its.live (sym its.its)
    (ap (λ (x : List Letter). has_room_for world x) (sym c.deref.ensures.value) ∙ room) refl)) refl

pub returns-in-Ok-clause-told : goal.returns-in-Ok-clause-told
returns-in-Ok-clause-told c =
    let world = c.args.self.now in
    let its = c.requires.its in
    let after = changed c.args.plan.change its.node in
    let letters = c.args.plan.letters.items in
    let effect = c.args.plan.effect in
    let sent = c.span_of.result in
    let room : has_room_for world c.deref.result.now ≡ true = grind arith in
    let found : letter_of world c.args.number ≡ Some c.letter-letter.result.now = sym c.in-Some.ensures ∙ ap (λ (x : Letter). Some x) (sym c.letter-letter.ensures) in
    let same : c.letter-letter.result.now ≡ its.letter = same_Some c.letter-letter.result.now its.letter (sym found ∙ its.mailed) in
    let to_is : c.to-to.result ≡ its.letter.to = c.to-to.ensures ∙ ap (λ (x : Letter). x.to) same in
    let kind_is : c.kind-kind.result ≡ kind_of its.letter.body = c.kind-kind.ensures ∙ ap (λ (x : Letter). kind_of x.body) same in
    delivered_told world c.args.number its.letter its.node after letters effect sent its.mailed its.live (sym its.its)
    (ap (λ (x : List Letter). has_room_for world x) (sym c.deref.ensures.value) ∙ room)
    (c.span_of.ensures ∙ ap (λ (x : List Letter). span_of world x) c.deref-2.ensures.value)
    ∙ ap (λ (k : LetterKind). Ok (record {
      outcome = record { happening = Delivered c.args.number k effect; sent = sent };
      world = after_step (with_delivered world c.args.number its.letter) its.letter.to after letters;
    })) (sym kind_is)
    ∙ ap (λ (w : World). Ok (record {
      outcome = record { happening = Delivered c.args.number c.kind-kind.result effect; sent = sent };
      world = w;
    })) (ap (λ (s : Silo). after_step (with_delivered world c.args.number its.letter) s after letters) (sym to_is)
    ∙ sym (c.in-Ok.ensures.made its.letter its.node its.mailed (ap (λ (s : Silo). node_of world s) to_is ∙ its.live)))
