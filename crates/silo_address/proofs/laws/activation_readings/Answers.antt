use Rattle.std.proofs.Common.{refl}
use Rattle.silo_address.specs.ActivationText.{read_activation}
use Rattle.silo_address.specs.ReadSilo.{read_silo, silo_words}
use Rattle.silo_address.proofs.laws.activation_readings.Goals as goal

pub returns : goal.returns
unfolding read_activation read_silo silo_words
returns c = record { activation = refl; shape = refl; silo = refl; count = refl }
