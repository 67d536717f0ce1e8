use Rattle.std.proofs.Common.{◌≡◌, ◌&&◌, take}
use Rattle.silo_address.specs.Silo.{silo_eq}
use Rattle.hash_ring.specs.Ranges.{range_of, owns_its_place}
use Rattle.hash_ring.proofs.Rooms.{picked}
use Rattle.hash_ring.proofs.ranges.ranges_in.Given as goal

abbrev pub invariant-loop-at : goal.invariant-loop-at
invariant-loop-at l =
    l.ranges.items ≡ picked (range_of l.points) (λ p. silo_eq p.silo l.silo && owns_its_place l.points p) (take l.at l.points)
