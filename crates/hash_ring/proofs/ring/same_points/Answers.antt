use Rattle.std.proofs.lemmas.Slice.Eq.{slice_eq-Decides}
use Rattle.hash_ring.proofs.Order.{Decides-point}
use Rattle.hash_ring.proofs.ring.same_points.Goals as goal

pub returns : goal.returns
returns c = slice_eq-Decides Decides-point c.args.one.now c.args.other.now c.eq.result c.eq.ensures
