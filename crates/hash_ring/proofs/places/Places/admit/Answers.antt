use Rattle.std.proofs.Common.{sym, subst, List, ℕ, length, IsTrue}
use Rattle.silo_address.specs.Silo.{Silo}
use Rattle.hash_ring.specs.Places.{PlacesValue, IsPlaces, is_point_count, has_points}
use Rattle.hash_ring.proofs.PlacesKept.{IsPlaces-with_silo}
use Rattle.hash_ring.proofs.places.Places.admit.Goals as goal

pub invariant_of-self-2 : goal.invariant_of-self-2
invariant_of-self-2 c =
    let places : PlacesValue = record { hashing = c.self.inside.hashing; points = c.self.inside.points; entries = c.self.inside.silos.entries } in
    subst (λ (l : List (Silo × List ℕ)). IsPlaces (record places { entries = l })) (sym c.in_ok-insert.ensures.entries)
    (IsPlaces-with_silo places c.args.silo c.args.given.now c.in_ok-list.list c.self.invariant
    (subst (λ (v : PlacesValue). IsTrue (is_point_count v.hashing (length c.args.given.now))) (sym c.self.view_is) c.requires.count)
    (subst (λ (v : PlacesValue). IsTrue (has_points v.hashing (length c.args.given.now))) (sym c.self.view_is) c.requires.some)
    c.in_ok-list.ensures.exact c.in_ok-list.ensures.hashes)
