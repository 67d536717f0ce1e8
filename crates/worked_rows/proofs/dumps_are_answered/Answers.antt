use Rattle.std.proofs.Common.{refl}
use Rattle.worked_rows.proofs.Opened.{all_opened}
use Rattle.worked_rows.proofs.dumps_are_answered.Goals as goal

pub returns : goal.returns
unfolding all_opened
returns c =
    record {
      two_firm = refl;
      passes_over_the_dead = refl;
      ok = refl;
      ring = refl;
      range = refl;
      missing_firm = refl;
      asking = refl;
      stranger = refl;
    }
