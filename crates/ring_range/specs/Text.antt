-- The text of a range: its start, a plus, its size, the numbers in decimal.
use Rattle.std.specs.Prelude.{◌≡◌, ◌≢◌, ℕ, ◌+◌, ◌<◌, ◌==◌, ◌&&◌, nat_lt, nat_le, if◌then◌else◌, Bool, List, ◌∷◌, ◌++◌, All, length, Result, Ok, Err}
use Rattle.std.specs.List.{before_first, after_first, position_or_len}
use Rattle.std.specs.Fmt.{decimal}
use Rattle.texts.specs.Numeral.{IsNumeral, numeral_value, is_numeral}
use Rattle.ring_range.specs.Range.{circle, Range, IsRange}
use Rattle.ring_range.specs.declared.text.RangeTextError.{RangeTextError}
use Rattle.ring_range.specs.declared.text.RangeTextError.TheVariants.{Shape, NotANumber, OutOfRange}

abbrev pub plus_sign : ℕ
plus_sign = 43

-- a range's one spelling
abbrev pub range_text : Range → List ℕ
range_text range = decimal range.start ++ plus_sign ∷ decimal range.size

-- the text is two words, neither of them empty, on either side of its first plus
pub record HasWords (text start size : List ℕ) : Type 0 where
  pub joined : text ≡ start ++ plus_sign ∷ size
  pub first_plus : All (λ byte. byte ≢ plus_sign) start
  pub some_start : 0 < length start
  pub some_size : 0 < length size

-- the text has its two words
abbrev pub IsInShape : List ℕ → Type 0
IsInShape text = (start : List ℕ) × (size : List ℕ) × HasWords text start size

-- it has them, but they aren't both numerals
abbrev pub IsNotOfNumbers : List ℕ → Type 0
IsNotOfNumbers text = (start : List ℕ) × (size : List ℕ) × HasWords text start size × ¬ (IsNumeral start × IsNumeral size)

-- the range whose start and size two numerals write
abbrev pub range_by_words : List ℕ → List ℕ → Range
range_by_words start size = record { start = numeral_value start; size = numeral_value size }

-- both are numerals, but they write no range
abbrev pub IsOutOfRange : List ℕ → Type 0
IsOutOfRange text =
    (start : List ℕ) × (size : List ℕ) × HasWords text start size × (IsNumeral start × IsNumeral size) × ¬ (IsRange (range_by_words start size))

-- the tests for the two words, and for a range
abbrev pub is_plus : ℕ → Bool
is_plus byte = byte == plus_sign

abbrev pub start_word : List ℕ → List ℕ
start_word text = before_first is_plus text

abbrev pub size_word : List ℕ → List ℕ
size_word text = after_first is_plus text

abbrev pub has_words : List ℕ → Bool
has_words text = nat_lt 0 (position_or_len is_plus text) && nat_lt (position_or_len is_plus text + 1) (length text)

abbrev pub is_range : Range → Bool
is_range range = nat_lt range.start circle && nat_le range.size circle

abbrev pub if_range : Range → Result Range RangeTextError
if_range range = if is_range range then Ok range else Err OutOfRange

-- the range that the text tells, or its first fault: in the shape, then in a number, then in a size
unfoldable pub read_range : List ℕ → Result Range RangeTextError
read_range text =
    if has_words text
    then (if is_numeral (start_word text) && is_numeral (size_word text) then if_range (range_by_words (start_word text) (size_word text)) else Err NotANumber)
    else Err Shape
