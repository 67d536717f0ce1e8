-- The texts of silos: `a.b.c.d:port@generation`, each number in decimal.
use Rattle.std.specs.Prelude.{◌≡◌, ℕ, ◌<◌, ◌==◌, ◌||◌, Bool, false, List, [], ◌∷◌, ◌++◌, All, length, slice_index}
use Rattle.std.specs.Fmt.{decimal}
use Rattle.silo_address.specs.Marks.{dot, colon, at_sign}
use Rattle.texts.specs.Numeral.{IsNumeral, numeral_value}
use Rattle.silo_address.specs.Silo.{Silo}

-- the six words of a silo's text
pub record Words : Type 0 where
  pub first : List ℕ
  pub second : List ℕ
  pub third : List ℕ
  pub fourth : List ℕ
  pub port : List ℕ
  pub generation : List ℕ

-- what each of the six keeps
pub record EachWord (P : List ℕ → Type 0) (words : Words) : Type 0 where
  pub first : P words.first
  pub second : P words.second
  pub third : P words.third
  pub fourth : P words.fourth
  pub port : P words.port
  pub generation : P words.generation

-- the bytes that end a word
abbrev pub is_mark : ℕ → Bool
is_mark byte = (byte == dot) || (byte == colon) || (byte == at_sign)

-- a word: some bytes, none of them a mark
pub record IsWord (word : List ℕ) : Type 0 where
  pub some : 0 < length word
  pub no_mark : All (λ byte. is_mark byte ≡ false) word

abbrev pub words_text : Words → List ℕ
words_text words = words.first ++ dot ∷ (words.second ++ dot ∷ (words.third ++ dot ∷ (words.fourth ++ colon ∷ (words.port ++ at_sign ∷ words.generation))))

-- a text and its six words
pub record HasWords (bytes : List ℕ) (words : Words) : Type 0 where
  pub text : bytes ≡ words_text words
  pub each : EachWord IsWord words

-- a text of a silo's shape
abbrev pub HasSiloShape : List ℕ → Type 0
HasSiloShape bytes = (words : Words) × HasWords bytes words

abbrev pub AreNumerals : Words → Type 0
AreNumerals = EachWord IsNumeral

-- the silo that six numerals write, be it in range or not
abbrev pub silo_of : Words → Silo
silo_of words = record {
  ip = numeral_value words.first ∷ numeral_value words.second ∷ numeral_value words.third ∷ numeral_value words.fourth ∷ [];
  port = numeral_value words.port;
  generation = numeral_value words.generation;
}

abbrev pub words_of : Silo → Words
words_of silo = record {
  first = decimal (slice_index silo.ip 0);
  second = decimal (slice_index silo.ip 1);
  third = decimal (slice_index silo.ip 2);
  fourth = decimal (slice_index silo.ip 3);
  port = decimal silo.port;
  generation = decimal silo.generation;
}

-- a silo's one spelling
abbrev pub silo_text : Silo → List ℕ
silo_text silo = words_text (words_of silo)
