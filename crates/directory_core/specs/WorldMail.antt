-- The mail of a world, as the crate of the mail has it.
use Rattle.directory_rules.specs.State.{World}
use Rattle.letter_mail.specs.Mail.{MailValue}

abbrev pub mail_of : World → MailValue
mail_of world = record { letters = world.mail; sent = world.sent }
