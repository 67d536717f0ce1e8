use Rattle.std.proofs.Common.{refl}
use Rattle.worked_rows.proofs.Opened.{all_opened}
use Rattle.worked_rows.proofs.pieces_and_orders_amiss.Goals as goal

pub returns : goal.returns
unfolding all_opened
returns c =
    record {
      awaiting_with_entries = refl;
      recovering_with_entries = refl;
      awaiting_from_nobody = refl;
      settled_from_somebody = refl;
      recovering_from_somebody = refl;
      rows = refl;
      nodes = refl;
      pieces = refl;
      entries = refl;
    }
