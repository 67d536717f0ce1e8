-- The points up to the place end between the start and as many points further on as the size is.
use Rattle.hash_ring.proofs.Thirds.{IsNarrowed}
use Rattle.hash_ring.proofs.ring.up_to.Given as goal

abbrev pub invariant-loop-size : goal.invariant-loop-size
invariant-loop-size l = IsNarrowed l.fn.points l.start l.size l.fn.place

abbrev pub decreases-loop-size : goal.decreases-loop-size
decreases-loop-size l = l.size
