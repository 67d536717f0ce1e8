use Rattle.std.proofs.Common.{rules, ◌≡◌, ◌+◌, ◌++◌, ◌∷◌, ◌∙◌, [], sym, subst, length, List}
use Rattle.std.specs.Map.{keys_of}
use Rattle.letter_mail.specs.declared.slots.Slot.{Slot}
use Rattle.letter_mail.specs.Slots.{AreKept}
use Rattle.letter_mail.proofs.GrainNumbers.{are_put}
use Rattle.letter_mail.proofs.Posted.{put_posted, put_slot}
use Rattle.letter_mail.proofs.Queued.{queued_put}
use Rattle.letter_mail.proofs.slot_changes.put.Goals as goal

pub returns-clause-numbered : goal.returns-clause-numbered
returns-clause-numbered c =
    let items : c.push.new.self.items ≡ c.args.slots.now.items ++ c.in_ok-slot.slot ∷ [] = search rules in
    subst (λ (l : List Slot). AreKept (length (keys_of c.kept.new.grains)) l) (sym items)
    (are_put (keys_of c.args.grains.now) (keys_of c.kept.new.grains) c.args.slots.now.items c.in_ok-slot.slot c.kept.ensures.grown
    c.requires.numbered c.in_ok-slot.ensures.numbered)

pub returns-clause-queued : goal.returns-clause-queued
returns-clause-queued c =
    let items : c.push.new.self.items ≡ c.args.slots.now.items ++ c.in_ok-slot.slot ∷ [] = search rules in
    let is = put_slot (keys_of c.kept.new.grains) c.in_ok-slot.slot c.args.letter c.in_ok-slot.ensures.exact in
    queued_put c.args.slots.now.items c.push.new.self.items c.in_ok-slot.slot c.to-to.result (c.len.result + 1) c.args.queues.now.entries
    c.enqueue.new.queues.entries
    c.requires.queued items is.0 (is.1 ∙ sym c.to-to.ensures)
    (search rules) c.in_ok-enqueue.ensures.put

pub returns-clause-put : goal.returns-clause-put
returns-clause-put c =
    let items : c.push.new.self.items ≡ c.args.slots.now.items ++ c.in_ok-slot.slot ∷ [] = search rules in
    put_posted (keys_of c.args.grains.now) (keys_of c.kept.new.grains) c.args.slots.now.items c.push.new.self.items c.in_ok-slot.slot
    c.args.letter
    c.kept.ensures.grown c.requires.numbered items c.in_ok-slot.ensures.exact
