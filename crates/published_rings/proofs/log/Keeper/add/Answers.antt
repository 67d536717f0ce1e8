use Rattle.std.proofs.Common.{◌∙◌, ap, sym}
use Rattle.logbook.specs.Pages.{Named}
use Rattle.published_rings.proofs.Logs.{extends}
use Rattle.published_rings.proofs.log.Keeper.add.Goals as goal

pub compare_exchange-requires : goal.compare_exchange-requires
compare_exchange-requires c =
    let is = c.self.invariant in
    let step = c.announce-step.ensures in
    let book = ap (λ (h : Named). h.book) is.0 in (
      ap (λ (h : Named). h.tracked) is.0,
      sym book,
      is.1 ∙ sym book,
      step.0,
      rw (ap (λ (h : Named). h.key) is.0, step.2) (extends c.self.inside.seen.log c.self.inside.pen.nib c.announce-step.result.ask is.2
          is.3),
    )
