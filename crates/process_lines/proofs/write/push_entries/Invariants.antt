use Rattle.std.proofs.Common.{◌≡◌, ◌++◌, take}
use Rattle.script_lines.specs.Spaced.{spaced, BeginsWith}
use Rattle.process_rules.specs.LetterText.{entries_words}
use Rattle.process_lines.proofs.write.push_entries.Given as goal

abbrev pub invariant-loop-entry : goal.invariant-loop-entry
invariant-loop-entry l = record {
  written : l.out.items ≡ l.fn.out.items ++ spaced (entries_words (take l.entry-index l.entries));
  begins : BeginsWith l.fn.out.items l.out.items;
}
