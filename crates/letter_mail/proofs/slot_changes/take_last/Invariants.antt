use Rattle.std.proofs.Common.{◌≡◌, ◌-◌, ◌≤◌, length, take}
use Rattle.letter_mail.specs.Queues.{AreQueued}
use Rattle.letter_mail.proofs.slot_changes.take_last.Given as goal

-- the slots that were taken so far are gone
abbrev pub invariant-loop : goal.invariant-loop
invariant-loop l = record {
  many : l.count ≤ length l.fn.slots.items;
  taken : l.slots.items ≡ take (length l.fn.slots.items - l.counter) l.fn.slots.items;
  queued : AreQueued l.slots.items l.queues.entries;
}
