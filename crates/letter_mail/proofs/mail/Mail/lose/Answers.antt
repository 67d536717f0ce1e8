use Rattle.std.proofs.Common.{IsSome, ◌-◌, ◌<◌, List, length, sym, ◌∙◌, ap, subst, arith}
use Rattle.std.specs.Map.{keys_of}
use Rattle.letter_mail.specs.declared.slots.Slot.{Slot}
use Rattle.letter_mail.specs.Slots.{AreKept}
use Rattle.letter_mail.specs.Mail.{MailValue, letter_in, with_lost}
use Rattle.letter_mail.proofs.GrainNumbers.{are_set, some_slot}
use Rattle.letter_mail.proofs.Posted.{lost_is, was_sent}
use Rattle.letter_mail.proofs.mail.Mail.lose.Goals as goal

pub lose_in-requires-clause-sent : goal.lose_in-requires-clause-sent
lose_in-requires-clause-sent c =
    (was_sent (keys_of c.self.inside.grains) c.self.inside.slots.items c.args.number
    (subst (λ (m : MailValue). IsSome (letter_in m c.args.number)) (sym c.self.view_is) c.requires.there)).0

pub lose_in-requires-clause-within : goal.lose_in-requires-clause-within
lose_in-requires-clause-within c =
    (was_sent (keys_of c.self.inside.grains) c.self.inside.slots.items c.args.number
    (subst (λ (m : MailValue). IsSome (letter_in m c.args.number)) (sym c.self.view_is) c.requires.there)).1

pub invariant_of-self : goal.invariant_of-self
invariant_of-self c =
    let grains = (keys_of c.self.inside.grains) in
    let slots = c.self.inside.slots.items in
    let sent = was_sent grains slots c.args.number (subst (λ (m : MailValue). IsSome (letter_in m c.args.number)) (sym c.self.view_is) c.requires.there) in
    let below : c.args.number - 1 < length slots = omega (arith, sent.0, sent.1) in
    let d : Slot = some_slot slots (omega (arith, sent.0, sent.1)) in
    record {
      numbered = subst (λ (l : List Slot). AreKept (length grains) l) (sym (c.lose_in.ensures.lost d))
          (are_set (length grains) slots (c.args.number - 1) _ tt c.self.invariant.numbered);
      queued = c.lose_in.ensures.queued;
    }

pub returns : goal.returns
returns c =
    let grains = (keys_of c.self.inside.grains) in
    let slots = c.self.inside.slots.items in
    let there = subst (λ (m : MailValue). IsSome (letter_in m c.args.number)) (sym c.self.view_is) c.requires.there in
    let sent = was_sent grains slots c.args.number there in
    let d : Slot = some_slot slots (omega (arith, sent.0, sent.1)) in
    lost_is grains slots c.lose_in.new.slots.items c.args.number d sent.0 sent.1 (c.lose_in.ensures.lost d) there
    ∙ ap (λ (m : MailValue). with_lost m c.args.number) c.self.view_is
