use Rattle.std.proofs.Common.{◌∙◌, ap, ◌≤◌, sym, subst}
use Rattle.std.specs.Map.{keys_of}
use Rattle.letter_mail.specs.Mail.{MailValue, without_last}
use Rattle.letter_mail.proofs.Posted.{taken_is}
use Rattle.letter_mail.proofs.mail.Mail.take_back.Goals as goal

pub returns : goal.returns
returns c =
    taken_is (keys_of c.self.inside.grains) c.self.inside.slots.items c.take_last.new.slots.items c.args.count
    (subst (λ (m : MailValue). c.args.count ≤ m.sent) (sym c.self.view_is) c.requires) c.take_last.ensures.taken
    ∙ ap (λ (m : MailValue). without_last m c.args.count) c.self.view_is
