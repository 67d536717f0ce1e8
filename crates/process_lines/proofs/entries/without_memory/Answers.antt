use Rattle.std.proofs.Common.{◌∙◌, ◌++◌, ◌∷◌, []}
use Rattle.texts.specs.Words.{words_in}
use Rattle.process_lines.proofs.EachEntry.{entries_more}
use Rattle.process_lines.proofs.entries.without_memory.Goals as goal

pub words-preserved : goal.words-preserved
words-preserved c =
    let before = c.words.invariant.0 in (
      before ++ c.in_default-entry_of_words.field-0 ∷ [],
      c.words.invariant.1
          ∙ entries_more before (words_in c.words.rest.now) (words_in c.in-Some.behind.now) (words_in c.in-Some-split_word.after.now)
          c.in-Some.grain.now c.in-Some-split_word.activation.now c.in_default-entry_of_words.field-0
          c.in-Some.ensures.words c.in-Some-split_word.ensures.words c.in_default-entry_of_words.ensures,
    )
