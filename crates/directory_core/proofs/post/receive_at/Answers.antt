use Rattle.std.proofs.Common.{IsSome, sym, ◌∙◌, subst}
use Rattle.letter_mail.proofs.TakenBack.{letter_still, stale_first}
use Rattle.directory_core.proofs.post.receive_at.Goals as goal

pub deliver-requires : goal.deliver-requires
deliver-requires c = record {
  there = subst (λ l. IsSome l)
      (sym (letter_still c.args.mail.now c.carry_out_at.new.mail c.args.letters.items c.args.number c.in_ok-carry_out_at.ensures.posted
      c.requires.letter)) c.requires.letter;
}

pub returns-clause-posted : goal.returns-clause-posted
returns-clause-posted c = λ letter is.
    stale_first c.args.mail.now c.carry_out_at.new.mail c.deliver.new.self c.args.letters.items c.args.number letter
    c.in_ok-carry_out_at.ensures.posted c.requires.letter
    (c.deliver.ensures letter (letter_still c.args.mail.now c.carry_out_at.new.mail c.args.letters.items c.args.number
    c.in_ok-carry_out_at.ensures.posted c.requires.letter ∙ is))
