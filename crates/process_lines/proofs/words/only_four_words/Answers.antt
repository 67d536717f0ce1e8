use Rattle.texts.specs.Words.{words_in}
use Rattle.process_lines.proofs.Forms.{four_from}
use Rattle.process_lines.proofs.words.only_four_words.Goals as goal

pub returns : goal.returns
returns c =
    four_from (words_in c.args.line.now) (words_in c.in_ok-first.rest.now) _ _ _ _ c.in_ok-first.ensures.words c.in_ok-second.ensures
