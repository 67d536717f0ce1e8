use Rattle.std.proofs.Common.{refl}
use Rattle.silo_address.proofs.ActivationLaws.{activation_only}
use Rattle.silo_address.proofs.GrainCases.{grain_only}
use Rattle.texts.proofs.NumeralLaws.{read_number-decimal}
use Rattle.silo_address.proofs.SiloCases.{silo_only}
use Rattle.silo_address.proofs.StatedLaws.{stated_hash-only}
use Rattle.silo_address.proofs.laws.round_trips.Goals as goal

pub returns : goal.returns
returns c = record {
  silo = λ silo is. silo_only _ silo is refl;
  grain = λ grain is. grain_only _ grain is refl;
  activation = λ activation is small. activation_only _ activation is small refl;
  number = λ most number small at_most. read_number-decimal most _ number small at_most refl;
  hash = λ hash before small. stated_hash-only _ before hash small refl;
}
