-- The number that a text begins with: its digits, up to the first byte that is none.
use Rattle.std.specs.Prelude.{◌≡◌, ℕ, ◌<◌, ◌≤◌, Bool, false, List, length, not, slice_index}
use Rattle.std.specs.Borrow.{Bor}
use Rattle.std.specs.List.{before_first, position_or_len}
use Rattle.texts.specs.Numeral.{IsNumeral, is_digit, numeral_value}

-- the bytes that end the digits
abbrev pub is_other : ℕ → Bool
is_other byte = not (is_digit byte)

-- a digit stands there
abbrev pub IsDigitAt : List ℕ → ℕ → Type 0
IsDigitAt bytes position = (position < length bytes) × (is_other (slice_index bytes position) ≡ false)

-- this mark stands there
abbrev pub IsMarkAt : List ℕ → ℕ → ℕ → Type 0
IsMarkAt bytes position mark = (position < length bytes) × (slice_index bytes position ≡ mark)

abbrev pub front_digits : List ℕ → List ℕ
front_digits bytes = before_first is_other bytes

-- what the digits at the front write, and where they end
abbrev pub front_value : List ℕ → ℕ
front_value bytes = numeral_value (front_digits bytes)

abbrev pub front_end : List ℕ → ℕ
front_end bytes = position_or_len is_other bytes

-- a text that begins with a number of at most `most`
pub record IsNumberFirst (most : ℕ) (bytes : List ℕ) : Type 0 where
  pub numeral : IsNumeral (front_digits bytes)
  pub within : front_value bytes ≤ most

-- a number, and the bytes after it that a slice points to
abbrev pub number_view : ℕ × Bor (List ℕ) → ℕ × List ℕ
number_view found = (found.0, found.1.now)
