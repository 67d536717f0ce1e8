use Rattle.std.proofs.lemmas.Map.Lookups.{btree_map_eq-Decides}
use Rattle.membership_view.proofs.Same.{Decides-address, Decides-row}
use Rattle.membership_view.proofs.views.same_rows.Goals as goal

pub returns : goal.returns
returns c = btree_map_eq-Decides Decides-address Decides-row c.args.one.now c.args.other.now c.eq.result c.eq.ensures
