use Rattle.std.proofs.Common.{◌∙◌, ◌++◌, ◌∷◌, []}
use Rattle.texts.specs.Words.{words_in}
use Rattle.process_lines.proofs.EachRange.{ranges_more}
use Rattle.process_lines.proofs.ranges.without_memory.Goals as goal

pub words-preserved : goal.words-preserved
words-preserved c =
    let before = c.words.invariant.0 in (
      before ++ c.in_default-range_word.field-0 ∷ [],
      c.words.invariant.1
          ∙ ranges_more before (words_in c.words.rest.now) (words_in c.in-Some.behind.now) c.in-Some.word.now c.in-Some.ensures.words
          c.in_default-range_word.field-0 c.in_default-range_word.ensures,
    )
