-- That what was read is what was written: a letter has a head and a kind, and says those words.
use Rattle.std.proofs.Common.{◌≡◌, ℕ, List, Result, Ok, ap, ◌∙◌, subst}
use Rattle.hash_ring.specs.declared.hashing.Hashing.{Hashing}
use Rattle.ring_range.specs.Range.{IsRange}
use Rattle.directory_rules.specs.declared.letter_kind.LetterKind.{LetterKind}
use Rattle.directory_rules.specs.State.{Letter}
use Rattle.directory_rules.specs.Letter.{kind_of}
use Rattle.process_rules.specs.LetterText.{body_words}
use Rattle.process_rules.specs.ReadLetter.{Head}
use Rattle.process_rules.specs.Told.{IsNumber, IsToldBody}

abbrev pub head_in : Letter → Head
head_in letter = record { from = letter.from; to = letter.to; version = letter.version }

-- a letter has that head and that kind, says those words, and is one that a line can tell
pub record Gave (hashing : Hashing) (read : Result Head ℕ) (kind : LetterKind) (words : List (List ℕ)) (letter : Letter) : Type 0 where
  pub head_is : read ≡ Ok (head_in letter)
  pub kind_is : kind ≡ kind_of letter.body
  pub words_are : words ≡ body_words letter.body
  pub body : IsToldBody IsNumber IsRange hashing letter.from letter.version letter.body

-- the same, by what was read and written
pub moved : (hashing : Hashing) (read : Result Head ℕ) (head : Head) (named : LetterKind) (words says : List (List ℕ)) (made letter : Letter)
    → read ≡ Ok head → words ≡ says → made ≡ letter → Gave hashing (Ok head) named says made → Gave hashing read named words letter
moved hashing read head named words says made letter reads writes makes gave = record {
  head_is = reads ∙ gave.head_is ∙ ap (λ (l : Letter). Ok (head_in l)) makes;
  kind_is = gave.kind_is ∙ ap (λ (l : Letter). kind_of l.body) makes;
  words_are = writes ∙ gave.words_are ∙ ap (λ (l : Letter). body_words l.body) makes;
  body = subst (λ (l : Letter). IsToldBody IsNumber IsRange hashing l.from l.version l.body) makes gave.body;
}
