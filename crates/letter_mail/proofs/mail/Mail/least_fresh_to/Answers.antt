use Rattle.std.proofs.Common.{◌∙◌, ap}
use Rattle.std.specs.Map.{keys_of}
use Rattle.letter_mail.specs.Mail.{MailValue, least_fresh_to}
use Rattle.letter_mail.proofs.Least.{least_to}
use Rattle.letter_mail.proofs.mail.Mail.least_fresh_to.Goals as goal

pub returns : goal.returns
returns c =
    c.first_at.ensures
    ∙ least_to c.args.silo.now (keys_of c.self.inside.grains) c.self.inside.slots.items c.self.inside.queues.entries c.self.invariant.queued
    ∙ ap (λ (m : MailValue). least_fresh_to c.args.silo.now m) c.self.view_is
