-- The reading of a silo's text: which silo the bytes spell, or the first fault.
use Rattle.std.specs.Prelude.{ℕ, ◌==◌, ◌&&◌, nat_lt, Bool, Option, Some, None, Result, Ok, Err, List, length, slice_index, if◌then◌else◌}
use Rattle.std.specs.List.{list_all, position_or_len, before_first, after_first}
use Rattle.silo_address.specs.declared.silo.SiloError.{SiloError}
use Rattle.silo_address.specs.declared.silo.SiloError.TheVariants.{Shape, NotANumber, OutOfRange}
use Rattle.silo_address.specs.Chain.{◌>>=◌}
use Rattle.silo_address.specs.Marks.{dot, colon, at_sign}
use Rattle.texts.specs.Numeral.{is_numeral}
use Rattle.silo_address.specs.Silo.{Silo}
use Rattle.silo_address.specs.SiloText.{Words, is_mark, silo_of}

-- the word before the first mark, which has to be this one, and the bytes after the mark
abbrev pub word_before : ℕ → List ℕ → Option (List ℕ × List ℕ)
word_before mark bytes = if nat_lt 0 (position_or_len is_mark bytes) && nat_lt (position_or_len is_mark bytes) (length bytes) && (slice_index bytes (position_or_len is_mark bytes) == mark) then Some (before_first is_mark bytes, after_first is_mark bytes) else None

-- the bytes, where they are one word
abbrev pub only_word : List ℕ → Option (List ℕ)
only_word bytes = if nat_lt 0 (length bytes) && (position_or_len is_mark bytes == length bytes) then Some bytes else None

unfoldable pub silo_words : List ℕ → Option Words
silo_words bytes = do
  first ← word_before dot bytes
  second ← word_before dot first.1
  third ← word_before dot second.1
  fourth ← word_before colon third.1
  port ← word_before at_sign fourth.1
  generation ← only_word port.1
  Some (record { first = first.0; second = second.0; third = third.0; fourth = fourth.0; port = port.0; generation = generation })

abbrev pub are_numerals : Words → Bool
are_numerals words = is_numeral words.first && is_numeral words.second && is_numeral words.third && is_numeral words.fourth && is_numeral words.port && is_numeral words.generation

-- the test for a silo
abbrev pub is_silo : Silo → Bool
is_silo silo = (length silo.ip == 4) && list_all (λ byte. nat_lt byte 256) silo.ip && nat_lt 0 silo.port && nat_lt silo.port 65536 && nat_lt 0 silo.generation && nat_lt silo.generation 2147483648

abbrev pub silo_within : Silo → Result Silo SiloError
silo_within silo = if is_silo silo then Ok silo else Err OutOfRange

abbrev pub silo_by_words : Option Words → Result Silo SiloError
silo_by_words None = Err Shape
silo_by_words (Some words) = if are_numerals words then silo_within (silo_of words) else Err NotANumber

unfoldable pub read_silo : List ℕ → Result Silo SiloError
read_silo bytes = silo_by_words (silo_words bytes)
