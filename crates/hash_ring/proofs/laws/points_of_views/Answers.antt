use Rattle.hash_ring.proofs.Lawful.{points_are, ring_stays}
use Rattle.hash_ring.proofs.laws.points_of_views.Goals as goal

pub returns-clause-points : goal.returns-clause-points
returns-clause-points c = points_are

pub returns-clause-stay : goal.returns-clause-stay
returns-clause-stay c = ring_stays
