use Rattle.std.proofs.Common.{◌≡◌, length}
use Rattle.texts.specs.Words.{words_in}
use Rattle.process_rules.specs.ReadLine.{listed_in}
use Rattle.process_lines.specs.Colons.{checked}
use Rattle.process_lines.proofs.listed.check_listed.Given as goal

abbrev pub invariant-words : goal.invariant-words
invariant-words l = checked (listed_in (words_in l.words)) ≡ checked (listed_in (words_in l.rest))

abbrev pub decreases-words : goal.decreases-words
decreases-words l = length l.rest
