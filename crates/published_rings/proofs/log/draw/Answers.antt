use Rattle.std.proofs.Common.{◌∙◌, ap, sym}
use Rattle.logbook.specs.Pages.{Named}
use Rattle.published_rings.proofs.Logs.{draws}
use Rattle.published_rings.proofs.log.draw.Goals as goal

pub compare_exchange-requires : goal.compare_exchange-requires
compare_exchange-requires c =
    let is = c.requires in
    let step = c.plain-step.ensures in
    let pen = c.no_pen-pen.ensures in
    let book = ap (λ s. s.book) c.again-now.ensures ∙ sym (ap (λ (h : Named). h.book) is) in (
      ap (λ (h : Named). h.tracked) is,
      book,
      pen.0 ∙ book,
      step.0,
      rw (ap (λ (h : Named). h.key) is, pen.1, step.3) (draws c.again-now.result.log c.plain-step.result.ask),
    )
