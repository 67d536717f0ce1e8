-- How what the mail hands out is a letter of the rule.
use Rattle.directory_rules.specs.State.{Letter}
use Rattle.letter_mail.specs.declared.mailed.MailedLetter.{MailedLetter}
use Rattle.letter_mail.specs.declared.mailed.MailedLetter.TheVariants.{Made, Lent}

-- the letter
abbrev pub letter_seen : MailedLetter → Letter
letter_seen (Made letter) = letter
letter_seen (Lent letter) = letter.now
