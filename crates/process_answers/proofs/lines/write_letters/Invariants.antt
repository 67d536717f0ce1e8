use Rattle.std.proofs.Common.{◌≡◌, ◌++◌, map, take}
use Rattle.texts.specs.Printed.{text_of_lines}
use Rattle.script_lines.specs.Spaced.{BeginsWith}
use Rattle.process_rules.specs.LetterText.{letter_line}
use Rattle.process_answers.proofs.lines.write_letters.Given as goal

abbrev pub invariant-loop-letter : goal.invariant-loop-letter
invariant-loop-letter l = record {
  written : l.out.items ≡ l.fn.out.items ++ text_of_lines (map letter_line (take l.letter-index l.letters));
  begins : BeginsWith l.fn.out.items l.out.items;
}
