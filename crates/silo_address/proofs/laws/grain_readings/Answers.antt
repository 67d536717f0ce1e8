use Rattle.std.proofs.Common.{refl}
use Rattle.silo_address.specs.ReadGrain.{read_grain}
use Rattle.silo_address.proofs.laws.grain_readings.Goals as goal

pub returns : goal.returns
unfolding read_grain
returns c = record { grain = refl; shape = refl; too_long = refl; byte = refl }
