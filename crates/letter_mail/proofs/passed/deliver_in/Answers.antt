use Rattle.std.proofs.Common.{rules, ◌≡◌, ◌-◌, ◌<◌, List, length, get_or, set, sym, ◌∙◌, ap, subst, arith}
use Rattle.letter_mail.specs.declared.slots.Slot.{Slot}
use Rattle.letter_mail.specs.Slots.{is_fresh, stale_slot, slot_to}
use Rattle.letter_mail.specs.Queues.{AreQueued}
use Rattle.letter_mail.proofs.Queued.{queued_passed, stale_stale, stale_to}
use Rattle.letter_mail.proofs.passed.deliver_in.Goals as goal

pub returns-clause-queued : goal.returns-clause-queued
returns-clause-queued c =
    let slots = c.args.slots.now.items in
    let k = c.args.number - 1 in
    let old : Slot = c.index_mut-slot.result.now in
    let is : c.deliver.new.self ≡ stale_slot (get_or slots k old) = c.deliver.ensures ∙ ap stale_slot c.index_mut-slot.ensures.value in
    let below : k < length slots = omega (arith, c.requires.sent, c.requires.within) in
    let after : c.deref.result.now ≡ set slots k c.deliver.new.self = search rules in
    subst (λ (l : List Slot). AreQueued l c.advance_at.new.queues.entries) after
    (queued_passed slots c.deref.result.now c.deliver.new.self old c.to-to.result k c.args.queues.now.entries
    c.advance_at.new.queues.entries c.requires.queued below after
    (ap slot_to is ∙ stale_to (get_or slots k old)) (sym c.to-to.ensures) (ap is_fresh is ∙ stale_stale (get_or slots k old))
    c.advance_at.ensures.none c.advance_at.ensures.some)
