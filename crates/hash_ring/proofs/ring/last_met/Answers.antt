use Rattle.hash_ring.proofs.OwnerSearch.{last_up_to}
use Rattle.hash_ring.proofs.ring.last_met.Goals as goal

pub returns-then-past-gt0-clause-found : goal.returns-then-past-gt0-clause-found
returns-then-past-gt0-clause-found c =
    last_up_to c.args.points.now c.args.hash c.up_to-past.result c.requires.rise c.requires.on_circle c.up_to-past.ensures.bound
    c.up_to-past.ensures.split c.if-past-gt0.true
