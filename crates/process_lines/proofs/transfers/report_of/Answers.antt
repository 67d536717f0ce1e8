use Rattle.std.proofs.Common.{ap, sym, rules}
use Rattle.texts.specs.Words.{words_in}
use Rattle.process_rules.specs.ReadLetter.{report_behind}
use Rattle.process_lines.specs.ReadAs.{head_of, told}
use Rattle.process_lines.proofs.EachEntry.{report_brings, report_fails}
use Rattle.process_lines.proofs.Onto.{handed_on}
use Rattle.process_lines.proofs.transfers.report_of.Goals as goal

pub returns-in_err-entries-clause-reads : goal.returns-in_err-entries-clause-reads
returns-in_err-entries-clause-reads c =
    let error = c.in_err-entries.field-0.0 in
    let read = told head_of c.args.head in
    let behind = told (λ after. after) c.args.after in
    handed_on (λ letter. letter) c.from_residual-in_err-entries.result error
    (report_behind read c.args.range.now behind c.args.last.now (words_in c.args.entries.now))
    c.from_residual-in_err-entries.ensures.1
    (report_fails read c.args.range.now behind c.args.last.now (words_in c.args.entries.now) (head_of c.in_ok-head.head) c.in_ok-range.range
    c.in_ok-after.after c.in_ok-last.last error
    (ap (told head_of) c.in_ok-head.was) (sym c.in_ok-range.ensures) (ap (told (λ after. after)) c.in_ok-after.was)
    (sym c.in_ok-last.ensures)
    c.in_err-entries.ensures.reads)

pub returns-in_err-entries-clause-memory : goal.returns-in_err-entries-clause-memory
returns-in_err-entries-clause-memory c memory =
    report_brings (told head_of c.args.head) c.args.range.now (told (λ after. after) c.args.after) c.args.last.now
    (words_in c.args.entries.now)
    (head_of c.in_ok-head.head) c.in_ok-range.range c.in_ok-after.after c.in_ok-last.last
    (ap (told head_of) c.in_ok-head.was) (sym c.in_ok-range.ensures) (ap (told (λ after. after)) c.in_ok-after.was)
    (sym c.in_ok-last.ensures)
    (c.in_err-entries.ensures.memory (search rules))
