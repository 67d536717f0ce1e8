-- The numbers by which users know the refusals.
use Rattle.std.specs.Prelude.{ℕ}
use Rattle.silo_address.specs.declared.silo.SiloError.{SiloError}
use Rattle.silo_address.specs.declared.silo.SiloError.TheVariants as silo
use Rattle.silo_address.specs.declared.grain.GrainError.{GrainError}
use Rattle.silo_address.specs.declared.grain.GrainError.TheVariants as grain

abbrev pub silo_error_number : SiloError → ℕ
silo_error_number silo.Shape = 101
silo_error_number silo.NotANumber = 102
silo_error_number silo.OutOfRange = 103

abbrev pub grain_error_number : GrainError → ℕ
grain_error_number grain.Shape = 111
grain_error_number grain.TooLong = 112
grain_error_number grain.Byte = 113
