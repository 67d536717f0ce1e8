-- How many words a form has, and what that decides.
use Rattle.std.proofs.Common.{◌≡◌, ℕ, Bool, true, false, Result, Ok, Err, List, [], ◌∷◌, Some, None, refl, ap, sym, ◌∙◌, true≢false}
use Rattle.hash_ring.specs.declared.hashing.Hashing.{Hashing}
use Rattle.directory_rules.specs.declared.act.Act.TheVariants as act
use Rattle.directory_rules.specs.declared.letter_kind.LetterKind.{LetterKind}
use Rattle.directory_rules.specs.declared.letter_kind.LetterKind.TheVariants.{Page, Report, Survey, Empty}
use Rattle.script_rules.specs.Script.{grain_word, ◌>>=◌}
use Rattle.process_rules.specs.ReadLetter.{Head, a_number_and_an_entry, a_page, a_register, a_report, are_pairs, head_of_words, kind_among, kinds, letter_by, page_for, read_letter, report_behind, report_for, request_of}
use Rattle.script_lines.specs.WordCounts.{only_three_words}
use Rattle.process_lines.specs.Fronts.{Four, four_in, only_four_words}
use Rattle.process_lines.specs.Short.{IsShort}

-- a Register that has not four words names no activation that it replaces
pub register_without : (hashing : Hashing) (head : Result Head ℕ) (words : List (List ℕ)) → only_four_words words ≡ None
    → a_register hashing head words ≡ a_number_and_an_entry (λ h n e. request_of hashing h n (act.Register e None)) head words
register_without hashing head [] none = refl
register_without hashing head (a ∷ []) none = refl
register_without hashing head (a ∷ b ∷ []) none = refl
register_without hashing head (a ∷ b ∷ c ∷ []) none = refl
register_without hashing head (a ∷ b ∷ c ∷ d ∷ []) none = cc none
register_without hashing head (a ∷ b ∷ c ∷ d ∷ e ∷ words) none = refl

-- one that has four words
pub four_are : (words : List (List ℕ)) (one two three four : List ℕ) → only_four_words words ≡ Some (one, two, three, four)
    → words ≡ one ∷ two ∷ three ∷ four ∷ []
four_are [] one two three four is = cc is
four_are (a ∷ []) one two three four is = cc is
four_are (a ∷ b ∷ []) one two three four is = cc is
four_are (a ∷ b ∷ c ∷ []) one two three four is = cc is
four_are (a ∷ b ∷ c ∷ d ∷ []) one two three four is = λ i. (parts is i).0 ∷ (parts is i).1 ∷ (parts is i).2 ∷ (parts is i).3 ∷ []
  where
    parts : {p q : List ℕ × List ℕ × List ℕ × List ℕ} → Some p ≡ Some q → p ≡ q
    parts same = cc
four_are (a ∷ b ∷ c ∷ d ∷ e ∷ words) one two three four is = cc is

pub four_from : (words rest : List (List ℕ)) (one two three four : List ℕ) → words ≡ one ∷ rest
    → Some (two, three, four) ≡ only_three_words rest → Some (one, two, three, four) ≡ only_four_words words
four_from words [] one two three four first behind = cc behind
four_from words (a ∷ []) one two three four first behind = cc behind
four_from words (a ∷ b ∷ []) one two three four first behind = cc behind
four_from words (a ∷ b ∷ c ∷ []) one two three four first behind =
    ap (λ (t : List ℕ × List ℕ × List ℕ). Some (one, t.0, t.1, t.2)) (parts behind) ∙ sym (ap only_four_words first)
  where
    parts : {p q : List ℕ × List ℕ × List ℕ} → Some p ≡ Some q → p ≡ q
    parts same = cc
four_from words (a ∷ b ∷ c ∷ d ∷ rest) one two three four first behind = cc behind

-- all kinds but four are short
pub short_kind : (kind : LetterKind) → ¬ (kind ≡ Page) → ¬ (kind ≡ Report) → ¬ (kind ≡ Survey) → ¬ (kind ≡ Empty) → IsShort kind
short_kind Page page report survey empty = absurd (page refl)
short_kind Report page report survey empty = absurd (report refl)
short_kind Survey page report survey empty = absurd (survey refl)
short_kind Empty page report survey empty = absurd (empty refl)
short_kind short page report survey empty = tt

pub ruleset by_kind = (short_kind)

-- ---- the first four words
abbrev four_parts : Four → List (List ℕ)
four_parts four = four.first ∷ four.second ∷ four.third ∷ four.fourth ∷ four.behind

four_front : (words : List (List ℕ)) (four : Four) → four_in words ≡ Some four → words ≡ four_parts four
four_front [] four is = cc is
four_front (a ∷ []) four is = cc is
four_front (a ∷ b ∷ []) four is = cc is
four_front (a ∷ b ∷ c ∷ []) four is = cc is
four_front (a ∷ b ∷ c ∷ d ∷ words) four is = ap four_parts (some_is is)
  where
    some_is : {p q : Four} → Some p ≡ Some q → p ≡ q
    some_is same = cc

pub letter_few : (hashing : Hashing) (words : List (List ℕ)) → four_in words ≡ None → read_letter hashing words ≡ Err 922
unfolding read_letter
letter_few hashing [] none = refl
letter_few hashing (a ∷ []) none = refl
letter_few hashing (a ∷ b ∷ []) none = refl
letter_few hashing (a ∷ b ∷ c ∷ []) none = refl
letter_few hashing (a ∷ b ∷ c ∷ d ∷ words) none = cc none

pub letter_front : (hashing : Hashing) (words : List (List ℕ)) (four : Four) → four_in words ≡ Some four
    → read_letter hashing words ≡ letter_by (kind_among kinds four.fourth) hashing (head_of_words four.first four.second four.third)
    four.behind
unfolding read_letter
letter_front hashing words four is = ap (read_letter hashing) (four_front words four is)

pub page_few : (head : Result Head ℕ) (words : List (List ℕ)) → four_in words ≡ None → a_page head words ≡ Err 922
page_few head [] none = refl
page_few head (a ∷ []) none = refl
page_few head (a ∷ b ∷ []) none = refl
page_few head (a ∷ b ∷ c ∷ []) none = refl
page_few head (a ∷ b ∷ c ∷ d ∷ words) none = cc none

pub page_front : (head : Result Head ℕ) (words : List (List ℕ)) (four : Four) → four_in words ≡ Some four
    → a_page head words ≡ page_for (are_pairs four.behind) head four.first four.second four.third four.fourth four.behind
page_front head words four is = ap (a_page head) (four_front words four is)

pub ruleset fronts = (letter_few, letter_front, page_few, page_front)

pub ruleset registers = (register_without, four_are)

-- ---- a report
-- with nothing behind its range
pub report_bare : (head : Result Head ℕ) (words behind : List (List ℕ)) (range : List ℕ) → words ≡ range ∷ behind → behind ≡ []
    → a_report head words ≡ Err 922
report_bare head words behind range whole none = ap (a_report head) (whole ∙ ap (λ (ws : List (List ℕ)). range ∷ ws) none)

-- with a first word there, and others
module _ (head : Result Head ℕ) (words behind others : List (List ℕ)) (range first : List ℕ) (whole : words ≡ range ∷ behind)
    (next : behind ≡ first ∷ others) where
  split : words ≡ range ∷ first ∷ others
  split = whole ∙ ap (λ (ws : List (List ℕ)). range ∷ ws) next

  -- where these are no pairs, it says whether the report is the last
  pub report_first : are_pairs behind ≡ false → a_report head words ≡ report_behind head range (Ok None) first others
  report_first odd =
      ap (a_report head) split ∙ ap (λ (b : Bool). report_for b head range (first ∷ others)) (sym (ap are_pairs next) ∙ odd)

  -- one word is no pair
  pub report_odd : others ≡ [] → are_pairs behind ≡ true → a_report head words ≡ Err 922
  report_odd none even =
      let odd : are_pairs behind ≡ false = ap are_pairs (next ∙ ap (λ (ws : List (List ℕ)). first ∷ ws) none) in
      absurd (true≢false (sym even ∙ odd))

  -- where they are, it is the grain behind which is told
  pub report_further : (last : List ℕ) (entries : List (List ℕ)) → others ≡ last ∷ entries → are_pairs behind ≡ true
      → a_report head words ≡ report_behind head range (grain_word first >>= λ grain. Ok (Some grain)) last entries
  report_further last entries third even =
      let all : first ∷ others ≡ first ∷ last ∷ entries = ap (λ (ws : List (List ℕ)). first ∷ ws) third in
      ap (a_report head) (split ∙ ap (λ (ws : List (List ℕ)). range ∷ ws) all)
      ∙ ap (λ (b : Bool). report_for b head range (first ∷ last ∷ entries)) (sym (ap are_pairs (next ∙ all)) ∙ even)

pub ruleset reports = (report_bare, report_odd)
