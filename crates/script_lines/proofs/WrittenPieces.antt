-- What proves that a line is written piece by piece: the buffer's front stays, and each piece stands behind the last one.
use Rattle.script_lines.proofs.Fronts.{begins_with_itself, begins_with_the_first}
use Rattle.script_lines.proofs.SpacedWords.{behind_the_mark, nothing_spaced, then_spaced, then_behind_one, then_behind_two, then_behind_four}
use Rattle.script_lines.proofs.Texts.{range_written}

-- marked texts
pub ruleset part_by_part =
    (begins_with_itself, begins_with_the_first, behind_the_mark, range_written)

-- words
pub ruleset word_by_word =
    (begins_with_itself, begins_with_the_first, nothing_spaced, then_spaced, then_behind_one, then_behind_two, then_behind_four)
