use Rattle.std.proofs.Common.{◌≡◌, ◌++◌, take}
use Rattle.script_lines.specs.Spaced.{spaced, BeginsWith}
use Rattle.process_rules.specs.LetterText.{ranges_words}
use Rattle.process_lines.proofs.write.push_ranges.Given as goal

abbrev pub invariant-loop-range : goal.invariant-loop-range
invariant-loop-range l = record {
  written : l.out.items ≡ l.fn.out.items ++ spaced (ranges_words (take l.range-index l.ranges));
  begins : BeginsWith l.fn.out.items l.out.items;
}
