-- A letter that a line can tell is read of its words, and of no others.
use Rattle.std.proofs.Common.{◌≡◌, ℕ, Bool, true, false, List, [], ◌∷◌, Option, Some, None, Ok, refl, ap, ◌∙◌, subst, decimal}
use Rattle.std.specs.Prelude.{bytes_eq, cond}
use Rattle.std.proofs.lemmas.Slice.Eq.{bytes_eq-Decides}
use Rattle.silo_address.specs.Silo.{Silo, IsSilo}
use Rattle.silo_address.specs.SiloText.{silo_text}
use Rattle.hash_ring.specs.declared.hashing.Hashing.{Hashing}
use Rattle.directory_rules.specs.declared.letter_kind.LetterKind.{LetterKind}
use Rattle.directory_rules.specs.declared.letter_kind.LetterKind.TheVariants as kind
use Rattle.directory_rules.specs.State.{Letter}
use Rattle.directory_rules.specs.Letter.{kind_of}
use Rattle.script_rules.specs.Lines.{kind_word}
use Rattle.script_rules.specs.Script.{silo_word, number_word}
use Rattle.process_rules.specs.LetterText.{body_words, letter_words}
use Rattle.process_rules.specs.ReadLetter.{Head, head_of_words, kinds, kind_among, letter_by, read_letter}
use Rattle.process_rules.specs.Told.{IsNumber, IsTold}
use Rattle.process_rules.proofs.Chains.{three_again, three_gave}
use Rattle.process_rules.proofs.WordsAgain.{number_again, number_gave, silo_again, silo_gave}
use Rattle.process_rules.proofs.WordsTold.{number_told, silo_told}
use Rattle.process_rules.proofs.FormsAgain.{body_again}
use Rattle.process_rules.proofs.FormsGave.{form_gave}
use Rattle.process_rules.proofs.Given.{head_in}

-- ---- kinds
pub kind_again : (kind : LetterKind) → kind_among kinds (kind_word kind) ≡ Some kind
kind_again kind.Register = refl
kind_again kind.Deregister = refl
kind_again kind.Find = refl
kind_again kind.Registered = refl
kind_again kind.Taken = refl
kind_again kind.Removed = refl
kind_again kind.Absent = refl
kind_again kind.Found = refl
kind_again kind.Nothing = refl
kind_again kind.Retry = refl
kind_again kind.Ask = refl
kind_again kind.Page = refl
kind_again kind.Missing = refl
kind_again kind.Done = refl
kind_again kind.Query = refl
kind_again kind.Report = refl
kind_again kind.Survey = refl
kind_again kind.Empty = refl
kind_again kind.Behind = refl
kind_again kind.Ahead = refl
kind_again kind.Offer = refl

some_is : {a b : LetterKind} → Some a ≡ Some b → a ≡ b
some_is same = cc

kind_by : (first named : LetterKind) (word : List ℕ) (rest : Option LetterKind) (same : Bool) → bytes_eq word (kind_word first) ≡ same
    → (rest ≡ Some named → word ≡ kind_word named) → cond same (Some first) rest ≡ Some named → word ≡ kind_word named
kind_by first named word rest true is behind given = (bytes_eq-Decides word (kind_word first)).0 is ∙ ap kind_word (some_is given)
kind_by first named word rest false is behind given = behind given

kind_gave : (kinds : List LetterKind) (word : List ℕ) (named : LetterKind) → kind_among kinds word ≡ Some named → word ≡ kind_word named
kind_gave [] word named given = cc given
kind_gave (first ∷ kinds) word named given =
    kind_by first named word (kind_among kinds word) (bytes_eq word (kind_word first)) refl (λ rest. kind_gave kinds word named rest) given

-- ---- heads
abbrev pub head_with : Silo → Silo → ℕ → Head
head_with from to version = record { from = from; to = to; version = version }

-- ---- letters
pub again : (hashing : Hashing) (letter : Letter) → IsTold hashing letter → read_letter hashing (letter_words letter) ≡ Ok letter
unfolding read_letter
again hashing letter is =
    let head = head_in letter in
    let read = head_of_words (silo_text letter.from) (silo_text letter.to) (decimal letter.version) in
    let reads = three_again head_with (silo_word (silo_text letter.from)) (silo_word (silo_text letter.to)) (number_word (decimal letter.version)) letter.from letter.to letter.version
    (silo_again letter.from is.from) (silo_again letter.to is.to) (number_again letter.version is.version) in
    ap (λ (found : Option LetterKind). letter_by found hashing read (body_words letter.body)) (kind_again (kind_of letter.body))
    ∙ body_again hashing head read reads letter.body is.body

-- what was read of words: those are the letter's own, and a line can tell it
pub record WasTold (hashing : Hashing) (words : List (List ℕ)) (letter : Letter) : Type 0 where
  pub words_are : words ≡ letter_words letter
  pub told : IsTold hashing letter

told_by : (hashing : Hashing) (from to version kind : List ℕ) (words : List (List ℕ)) (letter : Letter) (found : Option LetterKind)
    → kind_among kinds kind ≡ found
    → letter_by found hashing (head_of_words from to version) words ≡ Ok letter
    → WasTold hashing (from ∷ to ∷ version ∷ kind ∷ words) letter
told_by hashing from to version kind words letter None is given = cc given
told_by hashing from to version kind words letter (Some found) is given =
    let gave = form_gave hashing (head_of_words from to version) letter found words given in
    let head = three_gave head_with (silo_word from) (silo_word to) (number_word version) (head_in letter) gave.head_is in
    let spelled = kind_gave kinds kind found is ∙ ap kind_word gave.kind_is in
    record {
      words_are = λ i.
          (silo_gave from head.0 head.3 ∙ ap (λ (h : Head). silo_text h.from) head.6) i
          ∷ (silo_gave to head.1 head.4 ∙ ap (λ (h : Head). silo_text h.to) head.6) i
          ∷ (number_gave version head.2 head.5 ∙ ap (λ (h : Head). decimal h.version) head.6) i
          ∷ spelled i ∷ gave.words_are i;
      told = record {
        from = subst (λ (h : Head). IsSilo h.from) head.6 (silo_told from head.0 head.3);
        to = subst (λ (h : Head). IsSilo h.to) head.6 (silo_told to head.1 head.4);
        version = subst (λ (h : Head). IsNumber h.version) head.6 (number_told version head.2 head.5);
        body = gave.body;
      };
    }

pub was_told : (hashing : Hashing) (words : List (List ℕ)) (letter : Letter) → read_letter hashing words ≡ Ok letter
    → WasTold hashing words letter
unfolding read_letter
was_told hashing [] letter given = cc given
was_told hashing (one ∷ []) letter given = cc given
was_told hashing (one ∷ two ∷ []) letter given = cc given
was_told hashing (one ∷ two ∷ three ∷ []) letter given = cc given
was_told hashing (from ∷ to ∷ version ∷ kind ∷ words) letter given =
    told_by hashing from to version kind words letter (kind_among kinds kind) refl given
