use Rattle.std.proofs.Common.{refl}
use Rattle.silo_address.specs.ReadSilo.{read_silo, silo_words}
use Rattle.silo_address.proofs.laws.silo_readings.Goals as goal

pub returns : goal.returns
unfolding read_silo silo_words
returns c = record { silo = refl; shape = refl; not_a_number = refl; out_of_range = refl }
