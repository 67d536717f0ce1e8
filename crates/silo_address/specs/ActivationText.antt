-- The texts of activations: the silo's text, `!`, and the count in decimal.
use Rattle.std.specs.Prelude.{ℕ, ◌==◌, nat_lt, Bool, Result, Ok, Err, List, ◌∷◌, ◌++◌, length, if◌then◌else◌}
use Rattle.std.specs.Fmt.{decimal}
use Rattle.std.specs.List.{position_or_len, before_first, after_first}
use Rattle.silo_address.specs.declared.activation.ActivationId.{ActivationId}
use Rattle.silo_address.specs.declared.activation.ActivationError.{ActivationError}
use Rattle.silo_address.specs.declared.activation.ActivationError.TheVariants as fault
use Rattle.texts.specs.declared.NumberError.{NumberError}
use Rattle.silo_address.specs.declared.silo.SiloError.{SiloError}
use Rattle.silo_address.specs.Marks.{exclamation_mark}
use Rattle.texts.specs.Numeral.{read_number}
use Rattle.silo_address.specs.Silo.{Silo}
use Rattle.silo_address.specs.SiloText.{silo_text}
use Rattle.silo_address.specs.ReadSilo.{read_silo}

-- an activation's one spelling
abbrev pub activation_text : ActivationId → List ℕ
activation_text activation = silo_text activation.silo ++ exclamation_mark ∷ decimal activation.count

-- The reading of it: which activation the bytes spell, or the first fault.
abbrev pub is_exclamation_mark : ℕ → Bool
is_exclamation_mark byte = byte == exclamation_mark

abbrev pub activation_of : Result Silo SiloError → Result ℕ NumberError → Result ActivationId ActivationError
activation_of (Ok silo) (Ok count) = Ok (record { silo = silo; count = count })
activation_of (Ok silo) (Err e) = Err (fault.Count e)
activation_of (Err e) count = Err (fault.Silo e)

unfoldable pub read_activation : List ℕ → Result ActivationId ActivationError
read_activation bytes = if nat_lt (position_or_len is_exclamation_mark bytes) (length bytes) then
    activation_of (read_silo (before_first is_exclamation_mark bytes)) (read_number 18446744073709551615 (after_first is_exclamation_mark bytes)) else Err fault.Shape
