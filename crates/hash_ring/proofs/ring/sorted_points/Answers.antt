use Rattle.std.proofs.Common.{subst, List}
use Rattle.std.specs.List.Sorted.{IsPermutation}
use Rattle.hash_ring.specs.declared.point.Point.{Point}
use Rattle.hash_ring.specs.Ring.{points_of}
use Rattle.hash_ring.proofs.Order.{point_cmp_total, point_cmp_exact}
use Rattle.hash_ring.proofs.Sorts.{sorted_is_inserted}
use Rattle.hash_ring.proofs.PointsOfViews.{naming_cmp_total, points_of-rising}
use Rattle.hash_ring.proofs.PlacesKept.{IsRing-anew}
use Rattle.hash_ring.proofs.ring.sorted_points.Goals as goal

pub returns-clause-sorted : goal.returns-clause-sorted
returns-clause-sorted c =
    sorted_is_inserted point_cmp_total point_cmp_exact naming_cmp_total (points_of c.args.view.now c.args.places.now)
    c.sort_unstable.new.self.items
    (points_of-rising c.args.view.now c.args.places.now c.in_order.ensures)
    (subst (λ (l : List Point). IsPermutation l c.sort_unstable.new.self.items) c.in_ok-points.ensures c.sort_unstable.ensures.permutation)
    c.sort_unstable.ensures.sorted

pub returns-clause-kept : goal.returns-clause-kept
returns-clause-kept c =
    IsRing-anew c.args.view.now c.args.places.now c.whole.ensures 0 c.sort_unstable.new.self.items (returns-clause-sorted c)
