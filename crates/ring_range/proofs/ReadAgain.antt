-- What is read of a text is what is written: by the tests, and by the words.
use Rattle.std.proofs.Common.{◌≡◌, ◌≢◌, ℕ, suc, ◌+◌, ◌<◌, ◌≤◌, ◌&&◌, ◌↔◌, Bool, true, false, cond, nat_lt, nat_le, List, ◌∷◌, ◌++◌, length, get_or, take, drop, Result, Ok, Err, IfOk, refl, sym, ◌∙◌, ap, subst, arith, length-append}
use Rattle.std.specs.Prelude.{if◌then◌else◌, ◌-◌}
use Rattle.std.specs.Bool.{Decides}
use Rattle.std.specs.List.{position_or_len}
use Rattle.std.specs.Fmt.{decimal}
use Rattle.std.proofs.Math.Seq.{get_or-append_seam, drop-append-add}
use Rattle.std.proofs.lemmas.Bool.{false≢true}
use Rattle.std.proofs.lemmas.Bool.Decides.{Decides-eqb, Decides-and, not_from_Decides, nat_tests}
use Rattle.std.proofs.lemmas.Fmt.{decimal_nonempty}
use Rattle.std.proofs.lemmas.List.{take_at, get_or_append_left, get_or-take, length-take, length-drop}
use Rattle.std.proofs.lemmas.List.Sums.{position_or_len_is, split_at_first, passes_at_first, fails_before_first}
use Rattle.texts.proofs.Decided.{false_from_not}
use Rattle.ring_range.specs.Range.{circle, Range, IsRange}
use Rattle.ring_range.specs.declared.text.RangeTextError.{RangeTextError}
use Rattle.ring_range.specs.declared.text.RangeTextError.TheVariants.{Shape, NotANumber, OutOfRange}
use Rattle.texts.specs.Numeral.{IsNumeral, numeral_value, is_numeral}
use Rattle.ring_range.specs.Text.{plus_sign, range_text, HasWords, IsInShape, IsNotOfNumbers, IsOutOfRange, range_by_words, is_plus, start_word, size_word, has_words, is_range, if_range, read_range}
use Rattle.texts.proofs.Cuts.{rest_from}
use Rattle.texts.proofs.NumeralLaws.{Decides-is_numeral, decimal-numeral_value, numeral_value-decimal, decimal_is_numeral}

-- the two words of a text are those on either side of its first plus
module _ (text start size : List ℕ) (words : HasWords text start size) where
  plus_behind : position_or_len is_plus text ≡ length start
  plus_behind =
      ap (position_or_len is_plus) words.joined
      ∙ position_or_len_is is_plus (start ++ plus_sign ∷ size) (length start) 0 (omega (arith, length-append start (plus_sign ∷ size)))
      (λ k below. rw (get_or_append_left start (plus_sign ∷ size) 0 k below) (other (get_or start k 0) (words.first_plus k 0 below)))
      (λ _. rw (get_or-append_seam start plus_sign size 0) refl)
    where
      other : (byte : ℕ) → byte ≢ plus_sign → is_plus byte ≡ false
      other byte ne = grind (arith, nat_tests)

  pub start_word_is : start_word text ≡ start
  start_word_is =
      ap start_word words.joined ∙ take_at start (plus_sign ∷ size) _ (sym (ap (position_or_len is_plus) (sym words.joined) ∙ plus_behind))

  pub size_word_is : size_word text ≡ size
  size_word_is =
      ap (λ n. drop (n + 1) text) plus_behind
      ∙ ap (drop (length start + 1)) words.joined
      ∙ drop-append-add start (plus_sign ∷ size) 1

  pub has_words_is : has_words text ≡ true
  has_words_is =
      let all : length text ≡ length start + suc (length size) = ap length words.joined ∙ length-append start (plus_sign ∷ size) in
      shaped (position_or_len is_plus text) (length text) (omega (arith, plus_behind, words.some_start))
      (omega (arith, plus_behind, words.some_size))
    where
      shaped : (plus len : ℕ) → 0 < plus → plus + 1 < len → (nat_lt 0 plus && nat_lt (plus + 1) len) ≡ true
      shaped plus len some more = grind (arith, nat_tests)

other : (byte : ℕ) → is_plus byte ≡ false → byte ≢ plus_sign
other byte e = grind (arith, nat_tests)

-- where the tests find two words, the text has them
words_of : (text : List ℕ) → has_words text ≡ true → HasWords text (start_word text) (size_word text)
words_of text e =
    let plus : ℕ = position_or_len is_plus text in
    let places : (0 < plus) × (plus + 1 < length text) = both_lt plus (length text) e in
    record {
      joined =
          split_at_first is_plus text 0 (omega arith) ∙ ap (λ byte. start_word text ++ byte ∷ size_word text)
          ((Decides-eqb _ plus_sign).0 (passes_at_first is_plus text 0 (omega arith)));
      first_plus =
          λ k d below. let before : k < plus = omega (arith, length-take plus text) in
          rw (get_or-take plus text k d before) (other (get_or text k d) (fails_before_first is_plus text k d before));
      some_start = omega (arith, length-take plus text);
      some_size = omega (arith, length-drop (plus + 1) text);
    }
  where
    both_lt : (plus len : ℕ) → (nat_lt 0 plus && nat_lt (plus + 1) len) ≡ true → (0 < plus) × (plus + 1 < len)
    both_lt plus len e = grind (arith, nat_tests)

-- the reading by its two words
abbrev pub by_numerals : List ℕ → List ℕ → Result Range RangeTextError
by_numerals start size = if is_numeral start && is_numeral size then if_range (range_by_words start size) else Err NotANumber

-- the reading of a text that has something on both sides of its first plus
pub read_range-words : (text : List ℕ) (plus : ℕ) → plus ≡ position_or_len is_plus text → ¬ (plus ≡ 0) → plus + 1 < length text
    → read_range text ≡ by_numerals (take plus text) (take (length text - (plus + 1)) (drop (plus + 1) text))
unfolding read_range
read_range-words text plus first some more =
    let shape : has_words text ≡ true = shaped (position_or_len is_plus text) (length text) (omega (arith, first, some)) (omega (arith, first, more)) in
    rw (shape, rest_from text (plus + 1), first) refl
  where
    shaped : (plus len : ℕ) → 0 < plus → plus + 1 < len → (nat_lt 0 plus && nat_lt (plus + 1) len) ≡ true
    shaped plus len some more = grind (arith, nat_tests)

Decides-numerals : (start size : List ℕ) → Decides (is_numeral start && is_numeral size) (IsNumeral start × IsNumeral size)
Decides-numerals start size = Decides-and _ _ (Decides-is_numeral start) (Decides-is_numeral size)

Decides-is_range : (range : Range) → Decides (is_range range) (IsRange range)
Decides-is_range range = (
  λ e. record { start_below = (parts range.start range.size e).0; size_within = (parts range.start range.size e).1 },
  λ ok. whole
      range.start range.size ok.start_below ok.size_within,
)
  where
    parts : (start size : ℕ) → (nat_lt start circle && nat_le size circle) ≡ true → (start < circle) × (size ≤ circle)
    parts start size e = grind (arith, nat_tests)

    whole : (start size : ℕ) → start < circle → size ≤ circle → (nat_lt start circle && nat_le size circle) ≡ true
    whole start size s z = grind (arith, nat_tests)

-- the four answers, by what the three tests tell
abbrev answer : Bool → Bool → Bool → Range → Result Range RangeTextError
answer shape numbers fits range = cond shape (cond numbers (cond fits (Ok range) (Err OutOfRange)) (Err NotANumber)) (Err Shape)

answer_ok : (shape numbers fits : Bool) (made range : Range) → answer shape numbers fits made ≡ Ok range
    → (shape ≡ true) × (numbers ≡ true) × (fits ≡ true) × (made ≡ range)
answer_ok true true true made range e = (refl, refl, refl, cc)
answer_ok true true false made range e = cc
answer_ok true false fits made range e = cc
answer_ok false numbers fits made range e = cc

answer_shape : (shape numbers fits : Bool) (made : Range) → answer shape numbers fits made ≡ Err Shape → shape ≡ false
answer_shape true true true made e = cc
answer_shape true true false made e = cc
answer_shape true false fits made e = cc
answer_shape false numbers fits made e = refl

answer_number : (shape numbers fits : Bool) (made : Range) → answer shape numbers fits made ≡ Err NotANumber
    → (shape ≡ true) × (numbers ≡ false)
answer_number true true true made e = cc
answer_number true true false made e = cc
answer_number true false fits made e = (refl, refl)
answer_number false numbers fits made e = cc

answer_range : (shape numbers fits : Bool) (made : Range) → answer shape numbers fits made ≡ Err OutOfRange
    → (shape ≡ true) × (numbers ≡ true) × (fits ≡ false)
answer_range true true true made e = cc
answer_range true true false made e = (refl, refl, refl)
answer_range true false fits made e = cc
answer_range false numbers fits made e = cc

of_shape : {shape : Bool} (numbers fits : Bool) (made : Range) → shape ≡ false → answer shape numbers fits made ≡ Err Shape
of_shape numbers fits made p = rw p refl

of_number : {shape numbers : Bool} (fits : Bool) (made : Range) → shape ≡ true → numbers ≡ false
    → answer shape numbers fits made ≡ Err NotANumber
of_number fits made p q = rw (p, q) refl

of_range : {shape numbers fits : Bool} (made : Range) → shape ≡ true → numbers ≡ true → fits ≡ false
    → answer shape numbers fits made ≡ Err OutOfRange
of_range made p q r = rw (p, q, r) refl

of_ok : {shape numbers fits : Bool} {made range : Range} → shape ≡ true → numbers ≡ true → fits ≡ true → made ≡ range
    → answer shape numbers fits made ≡ Ok range
of_ok p q r e = rw (p, q, r, e) refl

abbrev range_at : ℕ → ℕ → Range
range_at start size = record { start = start; size = size }

spelled : (start size : List ℕ) → decimal (numeral_value start) ≡ start → decimal (numeral_value size) ≡ size
    → range_text (range_by_words start size) ≡ start ++ plus_sign ∷ size
spelled start size s z = λ i. s i ++ plus_sign ∷ z i

module _ (text : List ℕ) where
  abbrev made : Range
  made = range_by_words (start_word text) (size_word text)

  abbrev numbers : Bool
  numbers = is_numeral (start_word text) && is_numeral (size_word text)

  -- what holds of the two words of the text holds of what the tests cut out
  by_words : (P : List ℕ → List ℕ → Type 0) (start size : List ℕ) → HasWords text start size → P start size
      → P (start_word text) (size_word text)
  by_words P start size words h =
      subst (λ s. P s (size_word text)) (sym (start_word_is text start size words))
      (subst (λ z. P start z) (sym (size_word_is text start size words)) h)

  no_words : has_words text ≡ false → ¬ (IsInShape text)
  no_words e (start, size, words) = absurd (false≢true (sym e ∙ has_words_is text start size words))

  words_by_test : ¬ (IsInShape text) → has_words text ≡ false
  words_by_test none =
      elim (has_words text) as (λ b. has_words text ≡ b → b ≡ false)
      [ true ↦ λ e. absurd (none (start_word text, size_word text, words_of text e)) | false ↦ λ e. refl ] refl

  pub shape_fault : (read_range text ≡ Err Shape) ↔ ¬ (IsInShape text)
  unfolding read_range
  shape_fault = (
    λ e. no_words (answer_shape (has_words text) numbers (is_range made) made e),
    λ none. of_shape numbers (is_range made) made
        (words_by_test none),
  )

  pub number_fault : (read_range text ≡ Err NotANumber) ↔ IsNotOfNumbers text
  unfolding read_range
  number_fault = (
    λ e.
        let told = answer_number (has_words text) numbers (is_range made) made e in (
          start_word text,
          size_word text,
          words_of text told.0,
          not_from_Decides numbers
              (Decides-numerals (start_word text) (size_word text)) told.1,
        ),
    λ (start, size, words, other).
        let none = by_words (λ s z. ¬ (IsNumeral s × IsNumeral z)) start size words other in
        of_number (is_range made) made (has_words_is text start size words)
        (false_from_not numbers (Decides-numerals (start_word text) (size_word text)) none),
  )

  pub range_fault : (read_range text ≡ Err OutOfRange) ↔ IsOutOfRange text
  unfolding read_range
  range_fault = (
    λ e.
        let told = answer_range (has_words text) numbers (is_range made) made e in (
          start_word text,
          size_word text,
          words_of text told.0,
          (Decides-numerals (start_word text) (size_word text)).0 told.1,
          not_from_Decides (is_range made) (Decides-is_range made) told.2,
        ),
    λ (start, size, words, numerals, other).
        let both = by_words (λ s z. IsNumeral s × IsNumeral z) start size words numerals in
        let none = by_words (λ s z. ¬ (IsRange (range_by_words s z))) start size words other in
        of_range made (has_words_is text start size words) ((Decides-numerals (start_word text) (size_word text)).1 both)
        (false_from_not (is_range made) (Decides-is_range made) none),
  )

  -- a text that is read is the spelling of its range
  pub found : (range : Range) → read_range text ≡ Ok range → text ≡ range_text range
  unfolding read_range
  found range e =
      let told = answer_ok (has_words text) numbers (is_range made) made range e in
      let words = words_of text told.0 in
      let numerals = (Decides-numerals (start_word text) (size_word text)).0 told.1 in
      let ok = (Decides-is_range made).0 told.2 in
      words.joined
      ∙ sym (spelled (start_word text) (size_word text) (decimal-numeral_value (start_word text) numerals.0 (omega (arith, ok.start_below)))
      (decimal-numeral_value (size_word text) numerals.1 (omega (arith, ok.size_within))))
      ∙ ap range_text told.3

  pub IfOk-found : (r : Result Range RangeTextError) → r ≡ read_range text → IfOk r (λ range. text ≡ range_text range)
  IfOk-found (Ok range) e = found range (sym e)
  IfOk-found (Err fault) e = tt

-- the words of a spelling
spelling_words : (text : List ℕ) (range : Range) → IsRange range → text ≡ range_text range
    → HasWords text (decimal range.start) (decimal range.size)
spelling_words text range ok spelled = record {
  joined = spelled;
  first_plus =
      λ k d below same. let digit = (decimal_is_numeral range.start (omega (arith, ok.start_below))).digits k d below in
      absurd (omega arith);
  some_start = decimal_nonempty range.start (omega (arith, ok.start_below));
  some_size = decimal_nonempty range.size (omega (arith, ok.size_within));
}

range_again : (range : Range) → IsRange range → range_by_words (decimal range.start) (decimal range.size) ≡ range
range_again range ok =
    λ i. range_at (numeral_value-decimal range.start (omega (arith, ok.start_below)) i)
    (numeral_value-decimal range.size (omega (arith, ok.size_within)) i)

-- the spelling of a range is read as the range
pub only : (text : List ℕ) (range : Range) → IsRange range → text ≡ range_text range → read_range text ≡ Ok range
unfolding read_range
only text range ok spelled =
    let words = spelling_words text range ok spelled in
    let numerals = by_words text (λ s z. IsNumeral s × IsNumeral z) _ _ words (decimal_is_numeral range.start (omega (arith, ok.start_below)), decimal_is_numeral range.size (omega (arith, ok.size_within))) in
    let same = by_words text (λ s z. range_by_words s z ≡ range) _ _ words (range_again range ok) in
    of_ok (has_words_is text _ _ words) ((Decides-numerals (start_word text) (size_word text)).1 numerals)
    ((Decides-is_range (made text)).1 (subst IsRange (sym same) ok)) same
