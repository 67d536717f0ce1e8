use Rattle.std.proofs.Common.{refl}
use Rattle.worked_rows.proofs.Opened.{all_opened}
use Rattle.worked_rows.proofs.numbers_out_of_range.Goals as goal

pub returns : goal.returns
unfolding all_opened
returns c =
    record {
      current = refl;
      dead = refl;
      left = refl;
      place = refl;
      point = refl;
      index = refl;
      no_points = refl;
      too_many_points = refl;
      start = refl;
      size = refl;
    }
