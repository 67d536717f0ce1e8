use Rattle.std.proofs.Common.{ap, sym, ◌∙◌}
use Rattle.letter_mail.specs.Slots.{is_fresh}
use Rattle.letter_mail.proofs.Queued.{fresh_none, fresh_some}
use Rattle.letter_mail.proofs.slots.is_fresh_at.Goals as goal

pub returns-in-Some : goal.returns-in-Some
returns-in-Some c =
    c.is_fresh.ensures ∙ ap is_fresh c.index-slots-index.is
    ∙ sym (fresh_some c.args.slots.now c.args.number c.in-Some.index c.index-slots-index.result c.in-Some.ensures.0 c.in-Some.ensures.1)

pub returns-in-None : goal.returns-in-None
returns-in-None c = sym (fresh_none c.args.slots.now c.args.number c.in-None.ensures)
