use Rattle.std.proofs.lemmas.Map.Lookups.{btree_map_eq-Decides}
use Rattle.silo_address.proofs.Same.{Decides-grain, Decides-silo}
use Rattle.range_recovery.proofs.recovery.same_told.Goals as goal

pub returns : goal.returns
returns c = btree_map_eq-Decides Decides-silo Decides-grain c.args.one.now c.args.other.now c.eq.result c.eq.ensures
