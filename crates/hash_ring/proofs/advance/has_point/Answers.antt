use Rattle.std.proofs.Common.{sym, subst}
use Rattle.std.specs.Bool.{Decides}
use Rattle.std.specs.List.{Contains}
use Rattle.hash_ring.proofs.Order.{point_cmp_total, point_cmp_exact}
use Rattle.hash_ring.proofs.OwnerSearch.{places_rise}
use Rattle.hash_ring.proofs.PutIn.{Decides-found}
use Rattle.hash_ring.proofs.advance.has_point.Goals as goal

pub up_to-past-requires : goal.up_to-past-requires
up_to-past-requires c = places_rise c.args.points.now c.requires

pub returns : goal.returns
returns c =
    subst (λ b. Decides b (Contains c.args.points.now c.args.point.now)) (sym c.is_ok.ensures.value)
    (Decides-found point_cmp_total point_cmp_exact c.args.points.now c.args.point.now c.binary_search.result c.requires
    c.binary_search.ensures.bound c.binary_search.ensures.position)
