use Rattle.std.proofs.Common.{subst}
use Rattle.std.specs.Map.{keys_of}
use Rattle.letter_mail.specs.Mail.{HasRisingNumbers, MailValue}
use Rattle.letter_mail.proofs.Least.{numbers_rise}
use Rattle.letter_mail.proofs.mail.Mail.numbered.Goals as goal

pub returns : goal.returns
returns c =
    subst (λ (m : MailValue). HasRisingNumbers m) c.self.view_is (numbers_rise (keys_of c.self.inside.grains) c.self.inside.slots.items)
