use Rattle.std.proofs.Common.{arith}
use Rattle.script_lines.proofs.WordLaws.{words_in-none, words_in-from}
use Rattle.script_lines.proofs.words.split_word.Goals as goal

pub returns-then-start-line-clause-words : goal.returns-then-start-line-clause-words
returns-then-start-line-clause-words c =
    words_in-none c.args.line.now c.leading_spaces-start.result c.leading_spaces-start.ensures.within c.leading_spaces-start.ensures.before
    (omega arith)

pub returns-clause-words : goal.returns-clause-words
returns-clause-words c =
    words_in-from c.args.line.now c.leading_spaces-start.result c.first_position-end.result (omega arith)
    c.leading_spaces-start.ensures.before
    (c.leading_spaces-start.ensures.stops (omega arith)) c.first_position-end.ensures.first
