use Rattle.std.proofs.Common.{◌≡◌, List, length}
use Rattle.ring_range.specs.Range.{Range}
use Rattle.texts.specs.Words.{words_in}
use Rattle.process_rules.specs.ReadLetter.{ranges_in}
use Rattle.process_lines.proofs.Onto.{onto}
use Rattle.process_lines.proofs.ranges.without_memory.Given as goal

abbrev pub invariant-words : goal.invariant-words
invariant-words l = (before : List Range) × (ranges_in (words_in l.words) ≡ onto before (ranges_in (words_in l.rest)))

abbrev pub decreases-words : goal.decreases-words
decreases-words l = length l.rest
