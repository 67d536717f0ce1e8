-- A grain's hash may be stated in its key: the number after the key's last `#`.
use Rattle.std.specs.Prelude.{ℕ, ◌==◌, Bool, Option, Some, None, Result, Ok, Err, List, if◌then◌else◌}
use Rattle.std.specs.List.{list_any, after_last}
use Rattle.texts.specs.declared.NumberError.{NumberError}
use Rattle.silo_address.specs.Marks.{number_sign}
use Rattle.texts.specs.Numeral.{read_number}

abbrev pub is_number_sign : ℕ → Bool
is_number_sign byte = byte == number_sign

abbrev pub number_in : Result ℕ NumberError → Option ℕ
number_in (Ok number) = Some number
number_in (Err fault) = None

-- the number from 0 to 4294967295 that is all of the key after its last `#`, if the key ends so
unfoldable pub stated_hash : List ℕ → Option ℕ
stated_hash key = if list_any is_number_sign key then number_in (read_number 4294967295 (after_last is_number_sign key)) else None
