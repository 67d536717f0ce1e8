use Rattle.std.proofs.Common.{sym, ◌∙◌, ap}
use Rattle.std.specs.Map.{keys_of}
use Rattle.letter_mail.specs.Mail.{MailValue, letter_in}
use Rattle.std.specs.Option.{option_map}
use Rattle.directory_rules.specs.State.{Posted}
use Rattle.letter_mail.specs.declared.slots.Slot.{Slot}
use Rattle.letter_mail.specs.Slots.{posted_in}
use Rattle.letter_mail.specs.MailModel.{mail_in}
use Rattle.letter_mail.proofs.Posted.{letter_at, letter_none}
use Rattle.letter_mail.proofs.mail.Mail.letter.Goals as goal

pub returns-in-Some : goal.returns-in-Some
returns-in-Some c =
    c.letter.ensures
    ∙ ap (λ (slot : Slot). option_map (λ (p : Posted). p.letter) (posted_in (keys_of c.self.inside.grains) slot)) c.index-slots-index.is
    ∙ sym (ap (λ (m : MailValue). letter_in m c.args.number)
    (sym (ap (mail_in (keys_of c.self.inside.grains)) c.deref-slots.ensures.value ∙ c.self.view_is))
    ∙ letter_at (keys_of c.self.inside.grains) c.deref-slots.result.now c.args.number c.in-Some.index c.index-slots-index.result
    c.in-Some.ensures.0 c.in-Some.ensures.1)

pub returns-in-None : goal.returns-in-None
returns-in-None c =
    sym (ap (λ (m : MailValue). letter_in m c.args.number)
    (sym (ap (mail_in (keys_of c.self.inside.grains)) c.deref-slots.ensures.value ∙ c.self.view_is))
    ∙ letter_none (keys_of c.self.inside.grains) c.deref-slots.result.now c.args.number c.in-None.ensures)
