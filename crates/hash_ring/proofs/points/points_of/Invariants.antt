use Rattle.std.proofs.Common.{◌≡◌, take}
use Rattle.hash_ring.proofs.PointsOfViews.{points_in}
use Rattle.hash_ring.proofs.points.points_of.Given as goal

abbrev pub invariant-loop-silo : goal.invariant-loop-silo
invariant-loop-silo l = l.points.items ≡ points_in l.places (take l.silo-index l.silo-items)
