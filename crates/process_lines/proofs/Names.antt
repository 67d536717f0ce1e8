-- What has a word for its name, among some that have names.
use Rattle.std.proofs.Common.{◌≡◌, ◌≢◌, ap, ◌∙◌, sym, refl, ℕ, Bool, true, false, List, [], ◌∷◌, ◌++◌, length, Option, Some, None}
use Rattle.std.specs.Prelude.{bytes_eq, cond, find}
use Rattle.std.proofs.lemmas.Bool.{cond-false, false_from_ne_true}
use Rattle.std.proofs.lemmas.Slice.Eq.{HasBytesAt, bytes_eq-Decides, text_from_reads}
use Rattle.membership_view.specs.declared.status.Status.{Status}
use Rattle.membership_view.specs.declared.status.Status.TheVariants.{Active, Leaving, Dead}
use Rattle.directory_rules.specs.declared.letter_kind.LetterKind.{LetterKind}
use Rattle.script_rules.specs.Lines.{kind_word}
use Rattle.script_rules.specs.Show.{status_word}
use Rattle.process_rules.specs.ReadLetter.{kind_among}
use Rattle.process_rules.specs.ReadLine.{status_named}

module _ {A : Type 0} (name : A → List ℕ) where
  -- which of them the word names
  abbrev named : List A → List ℕ → Option A
  named all word = find (λ its. bytes_eq word (name its)) all

  -- the word is the name of one
  name_read : (all : List A) (word known : List ℕ) (its : A) → length word ≡ length known → HasBytesAt word 0 known
      → named all known ≡ Some its → Some its ≡ named all word
  name_read all word known its long bytes is = sym (ap (named all) (text_from_reads word known long bytes) ∙ is)

  -- it is that of none
  abbrev pub IsNone : List ℕ → List A → Type 0
  IsNone word [] = Unit {0}
  IsNone word (its ∷ all) = (word ≢ name its) × IsNone word all

  no_name : (all : List A) (word : List ℕ) → IsNone word all → None ≡ named all word
  no_name [] word none = refl
  no_name (its ∷ all) word none =
      no_name all word none.1 ∙ sym (cond-false _ _ _
      (false_from_ne_true _ (λ same. none.0 ((bytes_eq-Decides word (name its)).0 same))))

  -- one of the first ones
  name_first : (front back : List A) (word : List ℕ) (its : A) → Some its ≡ named front word → Some its ≡ named (front ++ back) word
  name_first [] back word its is = absurd (cc is)
  name_first (first ∷ front) back word its is = by (bytes_eq word (name first)) is (name_first front back word its)
    where
      by : (same : Bool) → Some its ≡ cond same (Some first) (named front word)
          → (Some its ≡ named front word → Some its ≡ named (front ++ back) word)
          → Some its ≡ cond same (Some first) (named (front ++ back) word)
      by true here later = here
      by false there later = later there

  -- none of them
  name_behind : (front back : List A) (word : List ℕ) → None ≡ named front word → named back word ≡ named (front ++ back) word
  name_behind [] back word none = refl
  name_behind (first ∷ front) back word none = by (bytes_eq word (name first)) none (name_behind front back word)
    where
      by : (same : Bool) → None ≡ cond same (Some first) (named front word)
          → (None ≡ named front word → named back word ≡ named (front ++ back) word)
          → named back word ≡ cond same (Some first) (named (front ++ back) word)
      by true here later = absurd (cc here)
      by false there later = later there

-- kinds of letters
pub kind_read : (kinds : List LetterKind) (word known : List ℕ) (its : LetterKind) → length word ≡ length known → HasBytesAt word 0 known
    → kind_among kinds known ≡ Some its → Some its ≡ kind_among kinds word
kind_read = name_read kind_word

pub no_kind : (kinds : List LetterKind) (word : List ℕ) → IsNone kind_word word kinds → None ≡ kind_among kinds word
no_kind = no_name kind_word

pub kind_first : (front back : List LetterKind) (word : List ℕ) (its : LetterKind) → Some its ≡ kind_among front word
    → Some its ≡ kind_among (front ++ back) word
kind_first = name_first kind_word

pub kind_behind : (front back : List LetterKind) (word : List ℕ) → None ≡ kind_among front word
    → kind_among back word ≡ kind_among (front ++ back) word
kind_behind = name_behind kind_word

-- statuses
abbrev pub statuses : List Status
statuses = Active ∷ Leaving ∷ Dead ∷ []

pub status_read : (word known : List ℕ) (its : Status) → length word ≡ length known → HasBytesAt word 0 known
    → status_named known ≡ Some its → Some its ≡ status_named word
status_read = name_read status_word statuses

pub no_status : (word : List ℕ) → IsNone status_word word statuses → None ≡ status_named word
no_status = no_name status_word statuses
