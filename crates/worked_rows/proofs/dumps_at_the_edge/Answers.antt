use Rattle.std.proofs.Common.{refl}
use Rattle.worked_rows.proofs.Opened.{all_opened}
use Rattle.worked_rows.proofs.dumps_at_the_edge.Goals as goal

pub returns : goal.returns
unfolding all_opened
returns c =
    record {
      right = refl;
      node_missing = refl;
      versions_to_come = refl;
      most_points_and_places = refl;
      from_unknown = refl;
      equal_neighbours = refl;
      any_ring = refl;
    }
