use Rattle.std.proofs.Common.{ap, sym, true, rules}
use Rattle.texts.specs.Words.{words_in}
use Rattle.process_rules.specs.ReadLetter.{page_for}
use Rattle.process_lines.specs.ReadAs.{head_of, told}
use Rattle.process_lines.proofs.EachEntry.{page_brings, page_fails}
use Rattle.process_lines.proofs.Onto.{handed_on}
use Rattle.process_lines.proofs.transfers.page_of.Goals as goal

pub returns-in_err-entries-clause-reads : goal.returns-in_err-entries-clause-reads
returns-in_err-entries-clause-reads c =
    let error = c.in_err-entries.field-0.0 in
    let read = told head_of c.args.head in
    let front = c.args.front.now in
    handed_on (λ letter. letter) c.from_residual-in_err-entries.result error
    (page_for true read front.first.now front.second.now front.third.now front.fourth.now (words_in front.behind.now))
    c.from_residual-in_err-entries.ensures.1
    (page_fails read front.first.now front.second.now front.third.now front.fourth.now (words_in front.behind.now)
    (head_of c.in_ok-head.head) c.in_ok-range.range c.in_ok-page.page c.in_ok-pages.pages c.in_ok-digest.digest error
    (ap (told head_of) c.in_ok-head.was) (sym c.in_ok-range.ensures) (sym c.in_ok-page.ensures) (sym c.in_ok-pages.ensures)
    (sym c.in_ok-digest.ensures) c.in_err-entries.ensures.reads)

pub returns-in_err-entries-clause-memory : goal.returns-in_err-entries-clause-memory
returns-in_err-entries-clause-memory c memory =
    let front = c.args.front.now in
    page_brings (told head_of c.args.head) front.first.now front.second.now front.third.now front.fourth.now (words_in front.behind.now)
    (head_of c.in_ok-head.head) c.in_ok-range.range c.in_ok-page.page c.in_ok-pages.pages c.in_ok-digest.digest
    (ap (told head_of) c.in_ok-head.was) (sym c.in_ok-range.ensures) (sym c.in_ok-page.ensures) (sym c.in_ok-pages.ensures)
    (sym c.in_ok-digest.ensures)
    (c.in_err-entries.ensures.memory (search rules))
