use Rattle.std.proofs.Common.{◌∙◌, ◌<◌}
use Rattle.std.proofs.lemmas.List.Elements.{All-push, All-same}
use Rattle.ring_range.specs.Range.{circle}
use Rattle.hash_ring.proofs.HashedPlaces.{hashed_more}
use Rattle.hash_ring.proofs.silo_places.SiloPlaces.hashed.Goals as goal

pub loop-index-preserved : goal.loop-index-preserved
loop-index-preserved c = record {
  hashed =
      c.in_ok-push.ensures.items
      ∙ hashed_more c.args.silo.now c.loop-index.index c.loop-index.list.items c.in_ok-hashed_place.field-0 c.loop-index.invariant.hashed
      c.in_ok-hashed_place.ensures.hashed;
  hashes =
      All-same (λ place. place < circle) _ _ c.in_ok-push.ensures.items
      (All-push (λ place. place < circle) c.loop-index.list.items c.in_ok-hashed_place.field-0 c.loop-index.invariant.hashes
      c.in_ok-hashed_place.ensures.hash);
}
