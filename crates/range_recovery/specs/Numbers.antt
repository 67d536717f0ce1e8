-- The numbers by which users know the refusals.
use Rattle.std.specs.Prelude.{ℕ, Option, Some, None}
use Rattle.range_recovery.specs.declared.error.RecoveryError.{RecoveryError}
use Rattle.range_recovery.specs.declared.error.RecoveryError.TheVariants.{WrongVersion, Stranger, Twice, OutOfTurn, OutOfMemory}

-- the stated number of a refusal; out of memory has none
abbrev pub recovery_error_number : RecoveryError → Option ℕ
recovery_error_number WrongVersion = Some 751
recovery_error_number Stranger = Some 752
recovery_error_number Twice = Some 753
recovery_error_number OutOfTurn = Some 754
recovery_error_number OutOfMemory = None
