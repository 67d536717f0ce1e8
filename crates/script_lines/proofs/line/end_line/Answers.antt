use Rattle.std.proofs.Common.{◌++◌, [], ◌∷◌, ◌∙◌, append_assoc}
use Rattle.texts.specs.Words.{line_feed, sentence, space}
use Rattle.script_lines.proofs.SpacedWords.{sentence_and_space}
use Rattle.script_lines.proofs.line.end_line.Goals as goal

pub returns-clause-ended : goal.returns-clause-ended
returns-clause-ended c = λ front words some written.
    c.end_by_line_feed.ensures (front ++ sentence words) space
    (c.in_ok-taken_back_at_error.ensures.kept ∙ sentence_and_space front words _ some written)
    ∙ append_assoc front (sentence words) (line_feed ∷ [])
