-- The numbers by which users know the refusals.
use Rattle.std.specs.Prelude.{ℕ, Option, Some, None}
use Rattle.seal_snapshot.specs.declared.error.GatheringError.{GatheringError}
use Rattle.seal_snapshot.specs.declared.error.GatheringError.TheVariants.{WrongDigest, OutOfTurn, WrongVersion, OutOfMemory}

-- the stated number of a refusal; out of memory has none
abbrev pub gathering_error_number : GatheringError → Option ℕ
gathering_error_number WrongDigest = Some 701
gathering_error_number OutOfTurn = Some 702
gathering_error_number WrongVersion = Some 703
gathering_error_number OutOfMemory = None
