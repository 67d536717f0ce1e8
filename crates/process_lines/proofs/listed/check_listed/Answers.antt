use Rattle.std.proofs.Common.{◌∙◌}
use Rattle.texts.specs.Words.{words_in}
use Rattle.process_lines.proofs.EachSilo.{silos_checked}
use Rattle.process_lines.proofs.listed.check_listed.Goals as goal

pub words-preserved : goal.words-preserved
words-preserved c =
    c.words.invariant ∙ silos_checked (words_in c.words.rest.now) (words_in c.in-Some.behind.now) c.in-Some.word.now
    c.in-Some.ensures.words c.in_ok-check_word.ensures
