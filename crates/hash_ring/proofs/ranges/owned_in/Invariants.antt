use Rattle.std.proofs.Common.{◌≡◌, take}
use Rattle.hash_ring.specs.Ranges.{owned_range, owns_its_place}
use Rattle.hash_ring.proofs.Rooms.{picked}
use Rattle.hash_ring.proofs.ranges.owned_in.Given as goal

abbrev pub invariant-loop-at : goal.invariant-loop-at
invariant-loop-at l = l.ranges.items ≡ picked (owned_range l.points) (owns_its_place l.points) (take l.at l.points)
