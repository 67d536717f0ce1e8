use Rattle.std.proofs.Common.{◌≡◌, ◌<◌}
use Rattle.std.specs.List.{All}
use Rattle.ring_range.specs.Range.{circle}
use Rattle.hash_ring.specs.Hash.{hashed_places}
use Rattle.hash_ring.proofs.silo_places.SiloPlaces.hashed.Given as goal

abbrev pub invariant-loop-index : goal.invariant-loop-index
invariant-loop-index l = record {
  hashed : l.list.items ≡ hashed_places l.index l.silo;
  hashes : All (λ place. place < circle) l.list.items;
}
