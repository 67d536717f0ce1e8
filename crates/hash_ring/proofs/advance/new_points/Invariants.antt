use Rattle.std.proofs.Common.{◌≡◌, take}
use Rattle.hash_ring.proofs.NewPoints.{new_in}
use Rattle.hash_ring.proofs.advance.new_points.Given as goal

abbrev pub invariant-loop-row : goal.invariant-loop-row
invariant-loop-row l = l.new.items ≡ new_in l.places l.points (take l.row-index l.row-items)
