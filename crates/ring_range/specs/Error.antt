-- The numbers by which refusals are told.
use Rattle.std.specs.Prelude.{ℕ}
use Rattle.ring_range.specs.declared.range.RangeError.{RangeError}
use Rattle.ring_range.specs.declared.range.RangeError.TheVariants.{TooLarge}

abbrev pub number_of : RangeError → ℕ
number_of TooLarge = 301
