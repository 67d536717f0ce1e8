use Rattle.std.proofs.Common.{sym, ◌∙◌, ap}
use Rattle.std.specs.Map.{keys_of}
use Rattle.letter_mail.specs.Mail.{MailValue, has_fresh}
use Rattle.letter_mail.specs.MailModel.{mail_in}
use Rattle.letter_mail.proofs.Posted.{fresh_is}
use Rattle.letter_mail.proofs.mail.Mail.is_fresh.Goals as goal

pub returns : goal.returns
returns c =
    c.is_fresh_at.ensures
    ∙ sym (ap (λ (m : MailValue). has_fresh m c.args.number)
    (sym (ap (mail_in (keys_of c.self.inside.grains)) c.deref-slots.ensures.value ∙ c.self.view_is))
    ∙ fresh_is (keys_of c.self.inside.grains) c.deref-slots.result.now c.args.number)
