use Rattle.std.proofs.lemmas.Map.Lookups.{btree_map_eq-Decides}
use Rattle.std.proofs.lemmas.Slice.Eq.{bytes_eq-Decides}
use Rattle.silo_address.proofs.Same.{Decides-silo}
use Rattle.hash_ring.proofs.places.same_silos.Goals as goal

pub returns : goal.returns
returns c = btree_map_eq-Decides Decides-silo bytes_eq-Decides c.args.one.now c.args.other.now c.eq.result c.eq.ensures
