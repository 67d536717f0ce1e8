use Rattle.std.proofs.Common.{◌≡◌, [], length}
use Rattle.texts.specs.Words.{words_in}
use Rattle.directory_rules.specs.ListedModel.{all_listed_of}
use Rattle.process_rules.specs.ReadLine.{listed_in}
use Rattle.process_lines.proofs.EachSilo.{behind_these}
use Rattle.process_lines.proofs.listed.listed_in.Given as goal

abbrev pub invariant-words : goal.invariant-words
invariant-words l = record {
  read : listed_in (words_in l.words) ≡ behind_these (all_listed_of l.rows.items) (listed_in (words_in l.rest));
  nothing : words_in l.words ≡ [] → words_in l.rest ≡ [];
}

abbrev pub decreases-words : goal.decreases-words
decreases-words l = length l.rest
