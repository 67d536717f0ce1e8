-- How what the mail keeps is the rule's mail: letter n stands in the n-th slot.
use Rattle.std.specs.Prelude.{List, length}
use Rattle.std.specs.Map.{keys_of}
use Rattle.silo_address.specs.Grain.{Grain}
use Rattle.letter_mail.specs.declared.slots.Slot.{Slot}
use Rattle.letter_mail.specs.declared.mail.Mail.TheInside.{Inside}
use Rattle.letter_mail.specs.Slots.{AreKept, posted_from}
use Rattle.letter_mail.specs.Queues.{AreQueued}
use Rattle.letter_mail.specs.Mail.{MailValue}

-- the mail of slots
abbrev pub mail_in : List Grain → List Slot → MailValue
mail_in grains slots = record { letters = posted_from 1 grains slots; sent = length slots }

-- the rule's mail
abbrev pub mail_of : Inside → MailValue
mail_of m = mail_in (keys_of m.grains) m.slots.items

-- what the fields keep
pub record IsMail (m : Inside) : Type 0 where
  pub numbered : AreKept (length (keys_of m.grains)) m.slots.items
  pub queued : AreQueued m.slots.items m.queues.entries
