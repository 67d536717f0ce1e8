use Rattle.std.proofs.Common.{rules, ◌≡◌, ◌-◌, length, ◌∙◌, ap}
use Rattle.std.specs.Map.{keys_of}
use Rattle.letter_mail.specs.Mail.{MailValue, with_posted}
use Rattle.letter_mail.proofs.GrainNumbers.{mail_undone}
use Rattle.letter_mail.proofs.mail.Mail.post.Goals as goal

pub returns-in-Ok-clause-posted : goal.returns-in-Ok-clause-posted
returns-in-Ok-clause-posted c = c.in-Ok.ensures.put ∙ ap (λ (m : MailValue). with_posted m c.args.letters.items) c.self.view_is

pub returns-in-Err-clause-unchanged : goal.returns-in-Err-clause-unchanged
returns-in-Err-clause-unchanged c =
    let count_is : c.len.result - c.len-before.result ≡ length c.put_all.new.slots.items - length c.self.inside.slots.items = search rules in
    mail_undone (keys_of c.self.inside.grains) (keys_of c.put_all.new.grains) c.self.inside.slots.items c.put_all.new.slots.items
    c.take_last.new.slots.items (c.len.result - c.len-before.result)
    c.put_all.ensures.grown c.self.invariant.numbered c.put_all.ensures.behind count_is c.take_last.ensures.taken
    ∙ c.self.view_is
