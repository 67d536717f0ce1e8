use Rattle.std.proofs.Common.{sym, subst, List}
use Rattle.hash_ring.specs.declared.point.Point.{Point}
use Rattle.hash_ring.specs.Search.{PlacesRise}
use Rattle.hash_ring.proofs.OwnerSearch.{places_rise}
use Rattle.hash_ring.proofs.ring.Ring.owned_ranges.Goals as goal

pub owned_in-requires-clause-rise : goal.owned_in-requires-clause-rise
owned_in-requires-clause-rise c =
    subst (λ (l : List Point). PlacesRise l) (sym c.deref.ensures.value) (places_rise c.self.inside.points.items c.self.invariant.in_order)
