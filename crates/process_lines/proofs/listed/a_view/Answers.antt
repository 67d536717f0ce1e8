use Rattle.std.proofs.Common.{rules}
use Rattle.texts.specs.Words.{words_in}
use Rattle.process_rules.specs.ReadLine.{a_view}
use Rattle.process_lines.specs.AskedModel.{asked_of}
use Rattle.process_lines.proofs.Onto.{handed_on}
use Rattle.process_lines.proofs.EachSilo.{view_fails, view_needs, view_read}
use Rattle.process_lines.proofs.listed.a_view.Goals as goal

pub returns-in_err-rows-clause-reads : goal.returns-in_err-rows-clause-reads
returns-in_err-rows-clause-reads c =
    handed_on asked_of c.from_residual-in_err-rows.result c.in_err-rows.field-0.0 (a_view (words_in c.args.words.now))
    c.from_residual-in_err-rows.ensures.1
    (view_fails (words_in c.args.words.now) (words_in c.in-Some.behind.now) c.in-Some.version.now c.in_ok-version.version
    c.in-Some.ensures.words c.in_ok-version.ensures c.in_ok-check_listed.ensures c.in_err-rows.field-0.0 c.in_err-rows.ensures.reads)

pub returns-in_err-rows-clause-memory : goal.returns-in_err-rows-clause-memory
returns-in_err-rows-clause-memory c memory =
    view_needs (words_in c.args.words.now) (words_in c.in-Some.behind.now) c.in-Some.version.now c.in_ok-version.version
    c.in-Some.ensures.words c.in_ok-version.ensures c.in_ok-check_listed.ensures (c.in_err-rows.ensures.memory (search rules))

pub returns-clause-reads : goal.returns-clause-reads
returns-clause-reads c =
    view_read (words_in c.args.words.now) (words_in c.in-Some.behind.now) c.in-Some.version.now c.in_ok-version.version
    c.in-Some.ensures.words c.in_ok-version.ensures _ c.in_ok-rows.ensures.reads
