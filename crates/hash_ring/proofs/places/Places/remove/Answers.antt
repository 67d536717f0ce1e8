use Rattle.hash_ring.specs.Places.{PlacesValue}
use Rattle.hash_ring.proofs.PlacesKept.{IsPlaces-less}
use Rattle.hash_ring.proofs.places.Places.remove.Goals as goal

pub invariant_of-self : goal.invariant_of-self
invariant_of-self c =
    let places : PlacesValue = record { hashing = c.self.inside.hashing; points = c.self.inside.points; entries = c.self.inside.silos.entries } in
    IsPlaces-less places c.args.silo.now c.remove-places.new.self.entries c.self.invariant c.remove-places.ensures.ordered
    c.remove-places.ensures.updates.0
