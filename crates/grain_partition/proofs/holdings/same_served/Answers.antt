use Rattle.std.proofs.lemmas.Bool.Decides.{Decides-eqb}
use Rattle.std.proofs.lemmas.Map.Lookups.{btree_map_eq-Decides}
use Rattle.membership_view.proofs.Same.{Decides-address}
use Rattle.grain_partition.proofs.holdings.same_served.Goals as goal

pub returns : goal.returns
returns c = btree_map_eq-Decides Decides-address Decides-eqb c.args.one.now c.args.other.now c.eq.result c.eq.ensures
