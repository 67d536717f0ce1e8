use Rattle.std.proofs.Common.{◌∙◌, ◌++◌, ◌∷◌, []}
use Rattle.texts.specs.Words.{words_in}
use Rattle.script_lines.proofs.Placed.{places_more}
use Rattle.script_lines.proofs.places.without_memory.Goals as goal

pub loop-word-preserved : goal.loop-word-preserved
loop-word-preserved c =
    let before = c.loop-word.invariant.0 in (
      before ++ c.in_default-hash_word.field-0 ∷ [],
      c.loop-word.invariant.1 ∙ places_more before (words_in c.loop-word.rest.now) c.in-Some.word.now (words_in c.in-Some.behind.now)
          c.in_default-hash_word.field-0 c.in-Some.ensures.words c.in_default-hash_word.ensures,
    )
