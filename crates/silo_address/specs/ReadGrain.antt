-- The reading of a grain's text: which grain the bytes spell, or the first fault.
use Rattle.std.specs.Prelude.{ℕ, ◌==◌, ◌&&◌, nat_le, nat_lt, Bool, Result, Ok, Err, List, length, if◌then◌else◌}
use Rattle.std.specs.List.{list_all, position_or_len, before_first, after_first}
use Rattle.silo_address.specs.declared.grain.GrainError.{GrainError}
use Rattle.silo_address.specs.declared.grain.GrainError.TheVariants.{Shape, TooLong, Byte}
use Rattle.silo_address.specs.Marks.{slash}
use Rattle.silo_address.specs.Grain.{Grain}

abbrev pub is_slash : ℕ → Bool
is_slash byte = byte == slash

-- what stands before the first slash, and after it
abbrev pub grain_at_slash : List ℕ → Grain
grain_at_slash bytes = record { kind = before_first is_slash bytes; key = after_first is_slash bytes }

abbrev pub is_visible : ℕ → Bool
is_visible byte = nat_le 33 byte && nat_le byte 126

abbrev pub is_cut : List ℕ → Bool
is_cut bytes = nat_lt 0 (position_or_len is_slash bytes) && nat_lt (position_or_len is_slash bytes) (length bytes) && nat_lt 0 (length (after_first is_slash bytes))

abbrev pub is_short_enough : Grain → Bool
is_short_enough grain = nat_le (length grain.kind) 64 && nat_le (length grain.key) 128

abbrev pub grain_within : List ℕ → Result Grain GrainError
grain_within bytes = if is_short_enough (grain_at_slash bytes) then (if list_all is_visible bytes then Ok (grain_at_slash bytes) else Err Byte) else Err TooLong

unfoldable pub read_grain : List ℕ → Result Grain GrainError
read_grain bytes = if is_cut bytes then grain_within bytes else Err Shape
