use Rattle.std.proofs.Common.{IsSome, ◌-◌, ◌<◌, List, length, sym, ◌∙◌, ap, subst, arith}
use Rattle.std.specs.Map.{keys_of}
use Rattle.letter_mail.specs.declared.slots.Slot.{Slot}
use Rattle.letter_mail.specs.Slots.{AreKept}
use Rattle.letter_mail.specs.Mail.{MailValue, letter_in, with_stale}
use Rattle.letter_mail.proofs.GrainNumbers.{are_set, is_at_index, some_slot, still_slot}
use Rattle.letter_mail.proofs.Posted.{delivered_is, was_sent}
use Rattle.letter_mail.proofs.mail.Mail.deliver.Goals as goal

pub deliver_in-requires-clause-sent : goal.deliver_in-requires-clause-sent
deliver_in-requires-clause-sent c =
    (was_sent (keys_of c.self.inside.grains) c.self.inside.slots.items c.args.number
    (subst (λ (m : MailValue). IsSome (letter_in m c.args.number)) (sym c.self.view_is) c.requires.there)).0

pub deliver_in-requires-clause-within : goal.deliver_in-requires-clause-within
deliver_in-requires-clause-within c =
    (was_sent (keys_of c.self.inside.grains) c.self.inside.slots.items c.args.number
    (subst (λ (m : MailValue). IsSome (letter_in m c.args.number)) (sym c.self.view_is) c.requires.there)).1

pub invariant_of-self : goal.invariant_of-self
invariant_of-self c =
    let grains = (keys_of c.self.inside.grains) in
    let slots = c.self.inside.slots.items in
    let sent = was_sent grains slots c.args.number (subst (λ (m : MailValue). IsSome (letter_in m c.args.number)) (sym c.self.view_is) c.requires.there) in
    let below : c.args.number - 1 < length slots = omega (arith, sent.0, sent.1) in
    let d : Slot = some_slot slots (omega (arith, sent.0, sent.1)) in
    record {
      numbered = subst (λ (l : List Slot). AreKept (length grains) l) (sym (c.deliver_in.ensures.delivered d))
          (are_set (length grains) slots (c.args.number - 1) _
          (still_slot (length grains) _ (is_at_index (length grains) slots (c.args.number - 1) d below c.self.invariant.numbered))
          c.self.invariant.numbered);
      queued = c.deliver_in.ensures.queued;
    }

pub returns : goal.returns
returns c = λ letter found.
    let grains = (keys_of c.self.inside.grains) in
    let slots = c.self.inside.slots.items in
    let sent = was_sent grains slots c.args.number (subst (λ (m : MailValue). IsSome (letter_in m c.args.number)) (sym c.self.view_is) c.requires.there) in
    let d : Slot = some_slot slots (omega (arith, sent.0, sent.1)) in
    delivered_is grains slots c.deliver_in.new.slots.items c.args.number d letter sent.0 sent.1 (c.deliver_in.ensures.delivered d)
    (ap (λ (m : MailValue). letter_in m c.args.number) c.self.view_is ∙ found)
    ∙ ap (λ (m : MailValue). with_stale m c.args.number letter) c.self.view_is
