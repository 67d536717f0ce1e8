-- The line of a letter that a silo may send says that letter, or nothing.
use Rattle.std.proofs.Common.{◌≡◌, ℕ, Bool, true, false, List, ◌∷◌, Option, Some, Result, Ok, Err, sym, subst, length, decimal}
use Rattle.std.specs.Prelude.{cond, codes, nat_lt}
use Rattle.std.specs.List.{list_all}
use Rattle.texts.specs.Words.{words_in}
use Rattle.silo_address.specs.SiloText.{silo_text}
use Rattle.ring_range.specs.Range.{Range}
use Rattle.hash_ring.specs.declared.hashing.Hashing.{Hashing}
use Rattle.directory_rules.specs.declared.letter_kind.LetterKind.{LetterKind}
use Rattle.directory_rules.specs.State.{Letter}
use Rattle.directory_rules.specs.Letter.{kind_of}
use Rattle.script_rules.specs.Script.{silo_word, number_word, is_text, ◌>>=◌}
use Rattle.process_rules.specs.LetterText.{body_words, letter_line, letter_words}
use Rattle.process_rules.specs.ReadLetter.{head_of_words, letter_by, read_letter}
use Rattle.process_rules.specs.ReadLine.{Receive, longest_line, asked_of_words, read_silo_line}
use Rattle.process_rules.specs.Told.{IsLetterWith}
use Rattle.process_rules.proofs.Chains.{IsSaid, is_said, three_said}
use Rattle.process_rules.proofs.WordsAgain.{silo_again}
use Rattle.process_rules.proofs.Numbers.{number_said}
use Rattle.process_rules.proofs.Given.{head_in}
use Rattle.process_rules.proofs.FormsSaid.{body_said}
use Rattle.process_rules.proofs.LettersAgain.{head_with, kind_again}
use Rattle.process_rules.proofs.LineWords.{line_is_text, line_words}

module _ (Fits : ℕ → Type 0) (Lies : Range → Type 0) (hashing : Hashing) (letter : Letter)
    (is : IsLetterWith Fits Lies hashing letter) where
  head_said : IsSaid (head_of_words (silo_text letter.from) (silo_text letter.to) (decimal letter.version)) (head_in letter)
  head_said =
      three_said head_with (silo_word (silo_text letter.from)) (silo_word (silo_text letter.to)) (number_word (decimal letter.version))
      letter.from letter.to letter.version
      (is_said (silo_word (silo_text letter.from)) letter.from (silo_again letter.from is.from))
      (is_said (silo_word (silo_text letter.to)) letter.to (silo_again letter.to is.to))
      (number_said letter.version)

  pub letter_said : IsSaid (read_letter hashing (letter_words letter)) letter
  unfolding read_letter
  letter_said =
      let read = head_of_words (silo_text letter.from) (silo_text letter.to) (decimal letter.version) in
      subst (λ (found : Option LetterKind). IsSaid (letter_by found hashing read (body_words letter.body)) letter)
      (sym (kind_again (kind_of letter.body)))
      (body_said Fits hashing (head_in letter) read head_said Lies letter.body is.body)

  asked_said : (read : Result Letter ℕ) → IsSaid read letter
      → IsSaid (read >>= (λ letter. Ok (Receive letter)) >>= (λ asked. Ok (Some asked))) (Some (Receive letter))
  asked_said (Ok other) same = λ i. Some (Receive (same i))
  asked_said (Err fault) same = tt

  words_said : (words : List (List ℕ)) → words ≡ codes "letter" ∷ letter_words letter
      → IsSaid (asked_of_words hashing words) (Some (Receive letter))
  words_said words same =
      subst (λ (ws : List (List ℕ)). IsSaid (asked_of_words hashing ws) (Some (Receive letter))) (sym same)
      (asked_said (read_letter hashing (letter_words letter)) letter_said)

  by_length : (long text : Bool) → text ≡ true → IsSaid
      (cond long (Err 924) (cond text (asked_of_words hashing (words_in (letter_line letter))) (Err 925))) (Some (Receive letter))
  by_length true text is_so = tt
  by_length false true is_so = words_said (words_in (letter_line letter)) (line_words Fits Lies hashing letter is)
  by_length false false is_so = tt

  pub line_said : IsSaid (read_silo_line hashing (letter_line letter)) (Some (Receive letter))
  unfolding read_silo_line
  line_said =
      by_length (nat_lt longest_line (length (letter_line letter))) (list_all is_text (letter_line letter))
      (line_is_text Fits Lies hashing letter is)
