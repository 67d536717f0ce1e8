use Rattle.std.proofs.Common.{◌∙◌, ℕ, Option, Result, subst, sym}
use Rattle.silo_address.specs.Grain.{Grain}
use Rattle.texts.specs.Words.{words_in}
use Rattle.directory_rules.specs.State.{Letter}
use Rattle.process_rules.specs.ReadLetter.{report_behind}
use Rattle.process_lines.specs.ReadAs.{Reads, head_of, told}
use Rattle.process_lines.specs.Short.{LetterTellsList}
use Rattle.process_lines.proofs.Forms.{report_first, report_further}
use Rattle.process_lines.proofs.transfers.a_report.Goals as goal

pub returns-then-not-are_pairs-clause-reads : goal.returns-then-not-are_pairs-clause-reads
returns-then-not-are_pairs-clause-reads c =
    subst (λ (rule : Result Letter ℕ). Reads (λ letter. letter) c.report_of.result rule)
    (sym (report_first (told head_of c.args.head) (words_in c.args.words.now) (words_in c.in-Some.behind.now)
    (words_in c.in-Some-split_word.others.now) c.in-Some.range.now c.in-Some-split_word.first.now
    c.in-Some.ensures.words c.in-Some-split_word.ensures.words (sym c.are_pairs.ensures ∙ c.if-not-are_pairs.true)))
    c.report_of.ensures.reads

pub returns-then-not-are_pairs-clause-memory : goal.returns-then-not-are_pairs-clause-memory
returns-then-not-are_pairs-clause-memory c memory =
    subst LetterTellsList
    (sym (report_first (told head_of c.args.head) (words_in c.args.words.now) (words_in c.in-Some.behind.now)
    (words_in c.in-Some-split_word.others.now) c.in-Some.range.now c.in-Some-split_word.first.now
    c.in-Some.ensures.words c.in-Some-split_word.ensures.words (sym c.are_pairs.ensures ∙ c.if-not-are_pairs.true)))
    (c.report_of.ensures.memory memory)

pub returns-clause-reads : goal.returns-clause-reads
returns-clause-reads c =
    let head = told head_of c.args.head in
    let range = c.in-Some.range.now in
    let last = c.in-Some-split_word-2.last.now in
    let entries = words_in c.in-Some-split_word-2.entries.now in
    subst (λ (rule : Result Letter ℕ). Reads (λ letter. letter) c.report_of-2.result rule)
    (sym (report_further head (words_in c.args.words.now) (words_in c.in-Some.behind.now)
    (words_in c.in-Some-split_word.others.now) range c.in-Some-split_word.first.now
    c.in-Some.ensures.words c.in-Some-split_word.ensures.words last entries c.in-Some-split_word-2.ensures.words
    (sym c.are_pairs.ensures ∙ c.if-not-are_pairs.false)))
    (subst (λ (after : Result (Option Grain) ℕ). Reads (λ letter. letter) c.report_of-2.result
    (report_behind head range after last entries))
    c.after_word.ensures c.report_of-2.ensures.reads)

pub returns-clause-memory : goal.returns-clause-memory
returns-clause-memory c memory =
    let head = told head_of c.args.head in
    let range = c.in-Some.range.now in
    let last = c.in-Some-split_word-2.last.now in
    let entries = words_in c.in-Some-split_word-2.entries.now in
    subst LetterTellsList
    (sym (report_further head (words_in c.args.words.now) (words_in c.in-Some.behind.now)
    (words_in c.in-Some-split_word.others.now) range c.in-Some-split_word.first.now
    c.in-Some.ensures.words c.in-Some-split_word.ensures.words last entries c.in-Some-split_word-2.ensures.words
    (sym c.are_pairs.ensures ∙ c.if-not-are_pairs.false)))
    (subst (λ (after : Result (Option Grain) ℕ). LetterTellsList (report_behind head range after last entries))
    c.after_word.ensures (c.report_of-2.ensures.memory memory))
