use Rattle.std.proofs.Common.{ap}
use Rattle.hash_ring.specs.Ring.{RingValue}
use Rattle.parts_tests.proofs.rings.advanced.Goals as goal

pub advance-requires : goal.advance-requires
advance-requires g c = (c.args.earlier.now, ap (λ (r : RingValue). r.points) (rw c.expect-ring.ensures at c.anew.ensures.made))
