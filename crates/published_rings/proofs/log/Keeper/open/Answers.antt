use Rattle.std.proofs.Common.{◌∙◌, ap, sym}
use Rattle.logbook.specs.Pages.{Named, Nib}
use Rattle.published_rings.proofs.Logs.{starts}
use Rattle.published_rings.proofs.log.Keeper.open.Goals as goal

pub compare_exchange-found-requires : goal.compare_exchange-found-requires
compare_exchange-found-requires c =
    let opened = c.open-seen.ensures in
    let head = c.tracked-head.ensures.0 in
    let step = c.announce-step.ensures in
    let pen = c.no_pen-none.ensures in
    let book = sym (ap (λ (h : Named). h.book) head ∙ opened.2) in (
      ap (λ (h : Named). h.tracked) head,
      book,
      pen.0 ∙ book,
      step.0,
      rw (ap (λ (h : Named). h.key) head ∙ ap (λ (n : Nib). n.key) opened.4, pen.1, opened.1, step.2) (starts c.announce-step.result.ask),
    )
