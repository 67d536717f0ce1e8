-- JSON read from bytes, token by token.
use Rattle.std.specs.Prelude.{◌≡◌, ℕ, ◌+◌, ◌*◌, ◌<◌, ◌≤◌, ◌++◌, length, ◌&&◌, ◌||◌, ◌==◌, nat_le, not, cond, Bool, false, List, [], ◌∷◌}
use Rattle.std.specs.Char.{digit_value}
use Rattle.json.specs.Token.{Token, string}
use Rattle.json.specs.Text.{content, plain, prepend}
use Rattle.json.specs.Word.{is_space}
use Rattle.json.specs.Lex as json
use Rattle.json.specs.Lex.{token, lex, between, in_string, punctuate}
use Rattle.dumps.specs.declared.plain_text.Place.{Place}
use Rattle.dumps.specs.declared.plain_text.Place.TheVariants.{Fresh, AfterValue}

-- where JSON's rule of commas stands
abbrev pub place_of : Place → json.Place
place_of Fresh = json.fresh
place_of AfterValue = json.after_value

-- the tokens that are still to come
abbrev pub tokens_at : Place → List ℕ → List Token
tokens_at place bytes = punctuate (place_of place) (lex between bytes)

-- where a value or a name may begin: at once, or behind a comma
abbrev pub begun_at : Place → json.Place
begun_at Fresh = json.fresh
begun_at AfterValue = json.after_comma

-- with these bytes it begins
abbrev pub IsBegun : Place → List ℕ → List ℕ → Type 0
IsBegun place bytes begun = tokens_at place bytes ≡ punctuate (begun_at place) (lex between begun)

-- a byte that stands for itself in a string: no mark of the end, no escape, no control
abbrev pub is_plain_byte : ℕ → Bool
is_plain_byte byte = nat_le 32 byte && not (byte == 34) && not (byte == 92)

-- a byte that stands for itself behind a backslash too
abbrev pub keeps_its_meaning : ℕ → Bool
keeps_its_meaning byte = (byte == 34) || (byte == 92) || (byte == 47)

-- behind its first quotation mark the bytes begin with this string, and go on with the rest behind its last one
abbrev pub IsQuoted : List ℕ → List ℕ → List ℕ → Type 0
IsQuoted bytes text rest = lex between (34 ∷ bytes) ≡ token (string text) ∷ lex between rest

-- in a string the bytes begin with what stands for this text, which is no longer than that, and go on with the rest
pub record StandsFor (bytes text rest : List ℕ) : Type 0 where
  pub read : content plain bytes ≡ prepend text (content plain rest)
  pub passed : lex in_string bytes ≡ lex in_string rest
  pub fits : length text + length rest ≤ length bytes

-- a byte below 128, by its two hexadecimal digits
pub record AreDigitsOf (byte high low : ℕ) : Type 0 where
  pub first : digit_value high < 16
  pub second : digit_value low < 16
  pub is : byte ≡ digit_value high * 16 + digit_value low
  pub below : byte < 128

-- what stands behind blanks
abbrev pub behind_blanks : List ℕ → List ℕ
behind_blanks [] = []
behind_blanks (byte ∷ bytes) = cond (is_space byte) (behind_blanks bytes) (byte ∷ bytes)

-- the bytes are a name with its last quotation mark, and behind blanks its colon and the rest
pub record IsNamed (bytes name rest : List ℕ) : Type 0 where
  pub behind : List ℕ
  pub is : bytes ≡ name ++ 34 ∷ behind
  pub ended : behind_blanks behind ≡ 58 ∷ rest

-- a value ends right here: a comma or a closing mark comes
abbrev pub ends_at_once : List ℕ → Bool
ends_at_once [] = false
ends_at_once (byte ∷ bytes) = (byte == 44) || (byte == 93) || (byte == 125)

-- a value ends before these bytes: it ends right behind their blanks
abbrev pub ends_value : List ℕ → Bool
ends_value bytes = ends_at_once (behind_blanks bytes)
