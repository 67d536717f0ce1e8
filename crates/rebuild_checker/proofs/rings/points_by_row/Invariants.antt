use Rattle.std.proofs.Common.{◌≡◌, take}
use Rattle.std.specs.List.{flat_map}
use Rattle.rebuild_checker.specs.Rings.{row_points}
use Rattle.rebuild_checker.proofs.rings.points_by_row.Given as goal

abbrev pub invariant-loop-row : goal.invariant-loop-row
invariant-loop-row l = l.points.items ≡ flat_map (row_points l.dump) (take l.row-index l.row-items)
