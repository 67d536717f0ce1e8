use Rattle.std.proofs.Common.{◌≡◌, List, length}
use Rattle.silo_address.specs.declared.Entry.{Entry}
use Rattle.texts.specs.Words.{words_in}
use Rattle.process_rules.specs.ReadLetter.{entries_in}
use Rattle.process_lines.proofs.Onto.{onto}
use Rattle.process_lines.proofs.entries.without_memory.Given as goal

abbrev pub invariant-words : goal.invariant-words
invariant-words l = (before : List Entry) × (entries_in (words_in l.words) ≡ onto before (entries_in (words_in l.rest)))

abbrev pub decreases-words : goal.decreases-words
decreases-words l = length l.rest
