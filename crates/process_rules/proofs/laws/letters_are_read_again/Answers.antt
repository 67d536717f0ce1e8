use Rattle.process_rules.proofs.LettersAgain.{again, was_told}
use Rattle.process_rules.proofs.laws.letters_are_read_again.Goals as goal

pub returns : goal.returns
returns c = record {
  again = again;
  only = λ hashing words letter given. (was_told hashing words letter given).words_are;
  told = λ hashing words letter given. (was_told hashing words letter given).told;
}
