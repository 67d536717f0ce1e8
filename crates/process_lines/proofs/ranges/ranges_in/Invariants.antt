use Rattle.std.proofs.Common.{◌≡◌, length}
use Rattle.texts.specs.Words.{words_in}
use Rattle.process_rules.specs.ReadLetter.{ranges_in}
use Rattle.process_lines.proofs.Onto.{onto}
use Rattle.process_lines.proofs.ranges.ranges_in.Given as goal

abbrev pub invariant-words : goal.invariant-words
invariant-words l = ranges_in (words_in l.words) ≡ onto l.ranges.items (ranges_in (words_in l.rest))

abbrev pub decreases-words : goal.decreases-words
decreases-words l = length l.rest
