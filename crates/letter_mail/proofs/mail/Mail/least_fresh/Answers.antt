use Rattle.std.proofs.Common.{Option, ℕ, List, sym, ◌∙◌, ap}
use Rattle.silo_address.specs.Silo.{Silo}
use Rattle.letter_mail.specs.Mail.{lesser}
use Rattle.letter_mail.proofs.Least.{least_among, least_is, lesser_of}
use Rattle.letter_mail.proofs.mail.Mail.least_fresh.Goals as goal

pub loop-silo-init : goal.loop-silo-init
loop-silo-init g c =
    ap (λ (l : List Silo). least_among l c.args.self.now)
    (c.into_iter-silo-iterator.ensures.into_iter_gives ∙ c.keys-silo-items.ensures.rest)
    ∙ least_is c.args.silos.now.entries c.args.self.now c.numbered.ensures

pub loop-silo-preserved : goal.loop-silo-preserved
loop-silo-preserved g c =
    let rest = least_among c.next.new.self c.args.self.now in
    ap (λ (o : Option ℕ). lesser o rest) (c.lesser-least.ensures
    ∙ ap (λ (o : Option ℕ). lesser c.loop-silo.least o) c.least_fresh_to.ensures)
    ∙ lesser_of c.loop-silo.least _ rest
    ∙ ap (λ (l : List Silo). lesser c.loop-silo.least (least_among l c.args.self.now)) (sym c.in-Some.ensures.steps)
    ∙ c.loop-silo.invariant
