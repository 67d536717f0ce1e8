use Rattle.std.proofs.Common.{sym}
use Rattle.letter_mail.proofs.Queued.{queued_less}
use Rattle.letter_mail.proofs.slot_changes.take_one.Goals as goal

pub returns-clause-queued : goal.returns-clause-queued
returns-clause-queued c =
    queued_less c.args.slots.now.items c.pop.new.self.items c.in-Some.slot c.to.result c.args.queues.now.entries
    c.dequeue.new.queues.entries
    c.requires.queued c.in-Some.ensures.items (sym c.to.ensures) c.dequeue.ensures.none c.dequeue.ensures.some
