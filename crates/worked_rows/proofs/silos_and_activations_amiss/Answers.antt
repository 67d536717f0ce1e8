use Rattle.std.proofs.Common.{refl}
use Rattle.worked_rows.proofs.Opened.{all_opened}
use Rattle.worked_rows.proofs.silos_and_activations_amiss.Goals as goal

pub returns : goal.returns
unfolding all_opened
returns c =
    record {
      row_twice = refl;
      node_twice = refl;
      node_without_row = refl;
      activation_without_row = refl;
      holds_of_another = refl;
      activation_twice = refl;
      grain_twice = refl;
    }
