-- Numbers as texts write them: in decimal, each in one way.
use Rattle.std.specs.Prelude.{◌≡◌, ℕ, ◌<◌, ◌≤◌, ◌==◌, ◌&&◌, not, nat_le, nat_lt, Bool, List, All, length, slice_index, Result, Ok, Err, if◌then◌else◌}
use Rattle.std.specs.List.{list_all}
use Rattle.std.specs.Str.Parse.{digits_value}
use Rattle.texts.specs.declared.number.NumberError.{NumberError}
use Rattle.texts.specs.declared.number.NumberError.TheVariants.{NotANumber, OutOfRange}

abbrev pub digit_zero : ℕ
digit_zero = 48

abbrev pub digit_nine : ℕ
digit_nine = 57

abbrev pub IsDigit : ℕ → Type 0
IsDigit byte = (digit_zero ≤ byte) × (byte ≤ digit_nine)

-- a numeral: digits, one at least, of which the first isn't a zero unless it is the only one
pub record IsNumeral (word : List ℕ) : Type 0 where
  pub some : 0 < length word
  pub digits : All IsDigit word
  pub shortest : slice_index word 0 ≡ digit_zero → length word ≡ 1

-- how a numeral begins: some bytes, of which the first isn't a zero unless it is the only one
pub record IsBegun (word : List ℕ) : Type 0 where
  pub some : 0 < length word
  pub shortest : slice_index word 0 ≡ digit_zero → length word ≡ 1

-- the number that a numeral writes
abbrev pub numeral_value : List ℕ → ℕ
numeral_value = digits_value 10

-- the test for a numeral, which computes
abbrev pub is_digit : ℕ → Bool
is_digit byte = nat_le digit_zero byte && nat_le byte digit_nine

abbrev pub is_numeral : List ℕ → Bool
is_numeral word = nat_lt 0 (length word) && list_all is_digit word && not (slice_index word 0 == digit_zero && nat_lt 1 (length word))

-- the number that a word writes, where it is a numeral of at most `most`
abbrev pub read_number : ℕ → List ℕ → Result ℕ NumberError
read_number most word = if is_numeral word then (if nat_le (numeral_value word) most then Ok (numeral_value word) else Err OutOfRange) else Err NotANumber
