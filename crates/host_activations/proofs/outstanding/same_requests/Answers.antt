use Rattle.std.proofs.lemmas.Bool.Decides.{Decides-eqb}
use Rattle.std.proofs.lemmas.Map.Lookups.{btree_map_eq-Decides}
use Rattle.host_activations.proofs.Same.{Decides-asked}
use Rattle.host_activations.proofs.outstanding.same_requests.Goals as goal

pub returns : goal.returns
returns c = btree_map_eq-Decides Decides-eqb Decides-asked c.args.one.now c.args.other.now c.eq.result c.eq.ensures
