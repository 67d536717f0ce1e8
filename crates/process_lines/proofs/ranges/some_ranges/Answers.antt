use Rattle.std.proofs.Common.{ap, rules}
use Rattle.texts.specs.Words.{words_in}
use Rattle.process_rules.specs.ReadLetter.{letter_of, some_ranges}
use Rattle.process_lines.specs.ReadAs.{head_of, told}
use Rattle.process_lines.proofs.EachRange.{letter_brings, letter_fails, letter_reads}
use Rattle.process_lines.proofs.Onto.{handed_on}
use Rattle.process_lines.proofs.ranges.some_ranges.Goals as goal

pub returns-in_default-clause-reads : goal.returns-in_default-clause-reads
returns-in_default-clause-reads c of = ap (some_ranges of (told head_of c.args.head)) c.in_default.ensures.words

pub returns-in_err-ranges-clause-reads : goal.returns-in_err-ranges-clause-reads
returns-in_err-ranges-clause-reads c of =
    let error = c.in_err-ranges.field-0.0 in
    let read = told head_of c.args.head in
    handed_on (λ parts. letter_of (head_of parts.0) (of parts.1.items)) c.from_residual-in_err-ranges.result error
    (some_ranges of read (words_in c.args.words.now)) c.from_residual-in_err-ranges.ensures.1
    (letter_fails of (words_in c.args.words.now) (words_in c.in-Some.field-0.1.now) c.in-Some.field-0.0.now c.in-Some.ensures.words read
    (head_of c.in_ok-head.head) (ap (told head_of) c.in_ok-head.was) error c.in_err-ranges.ensures.reads)

pub returns-in_err-ranges-clause-memory : goal.returns-in_err-ranges-clause-memory
returns-in_err-ranges-clause-memory c of tells memory =
    letter_brings of (words_in c.args.words.now) (words_in c.in-Some.field-0.1.now) c.in-Some.field-0.0.now c.in-Some.ensures.words
    (told head_of c.args.head) (head_of c.in_ok-head.head) (ap (told head_of) c.in_ok-head.was) tells
    (c.in_err-ranges.ensures.memory (search rules))

pub returns-clause-reads : goal.returns-clause-reads
returns-clause-reads c of =
    letter_reads of (words_in c.args.words.now) (words_in c.in-Some.field-0.1.now) c.in-Some.field-0.0.now c.in-Some.ensures.words
    (told head_of c.args.head) (head_of c.in_ok-head.head) (ap (told head_of) c.in_ok-head.was) c.in_ok-ranges.ranges.items
    c.in_ok-ranges.ensures.reads
