use Rattle.std.proofs.Common.{◌≡◌, [], length}
use Rattle.std.specs.Map.{keys_of}
use Rattle.letter_mail.specs.KeptLetters.{Grows}
use Rattle.letter_mail.specs.Slots.{AreKept}
use Rattle.letter_mail.specs.Queues.{AreQueued}
use Rattle.letter_mail.specs.Mail.{with_posted}
use Rattle.letter_mail.specs.MailModel.{mail_in}
use Rattle.letter_mail.proofs.slot_changes.put_all.Given as goal

-- the letters that are left belong behind those that are put, and none is left where there was none
abbrev pub invariant-loop-letter : goal.invariant-loop-letter
invariant-loop-letter l = record {
  numbered : AreKept (length (keys_of l.grains)) l.slots.items;
  queued : AreQueued l.slots.items l.queues.entries;
  behind : Grows l.fn.slots.items l.slots.items;
  grown : Grows (keys_of l.fn.grains) (keys_of l.grains);
  put : with_posted (mail_in (keys_of l.grains) l.slots.items) l.letter-iterator.rest.items ≡ with_posted
      (mail_in (keys_of l.fn.grains) l.fn.slots.items) l.fn.letters.items;
  none : l.fn.letters.items ≡ [] → l.letter-iterator.rest.items ≡ [];
}
