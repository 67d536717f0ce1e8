use Rattle.std.proofs.Common.{rules, ◌≡◌, ◌-◌, ◌<◌, List, length, get_or, set, sym, ◌∙◌, ap, subst, arith}
use Rattle.letter_mail.specs.declared.slots.Slot.{Slot}
use Rattle.letter_mail.specs.Slots.{is_fresh, lost_slot, slot_to}
use Rattle.letter_mail.specs.Queues.{AreQueued}
use Rattle.letter_mail.proofs.Queued.{queued_passed}
use Rattle.letter_mail.proofs.passed.lose_in.Goals as goal

pub returns-clause-queued : goal.returns-clause-queued
returns-clause-queued c =
    let slots = c.args.slots.now.items in
    let k = c.args.number - 1 in
    let old : Slot = c.index_mut-slot.result.now in
    let is : c.lose.new.self ≡ lost_slot (get_or slots k old) = c.lose.ensures ∙ ap lost_slot c.index_mut-slot.ensures.value in
    let below : k < length slots = omega (arith, c.requires.sent, c.requires.within) in
    let after : c.deref.result.now ≡ set slots k c.lose.new.self = search rules in
    subst (λ (l : List Slot). AreQueued l c.advance_at.new.queues.entries) after
    (queued_passed slots c.deref.result.now c.lose.new.self old c.to-to.result k c.args.queues.now.entries c.advance_at.new.queues.entries
    c.requires.queued below after
    (ap slot_to is) (sym c.to-to.ensures) (ap is_fresh is) c.advance_at.ensures.none c.advance_at.ensures.some)
