use Rattle.std.proofs.Common.{◌≡◌, length}
use Rattle.texts.specs.Words.{words_in}
use Rattle.process_rules.specs.ReadLetter.{are_pairs}
use Rattle.process_lines.proofs.entries.are_pairs.Given as goal

abbrev pub invariant-words : goal.invariant-words
invariant-words l = are_pairs (words_in l.words) ≡ are_pairs (words_in l.rest)

abbrev pub decreases-words : goal.decreases-words
decreases-words l = length l.rest
