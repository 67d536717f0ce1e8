use Rattle.std.proofs.Common.{◌≡◌, ◌<◌, ◌∙◌, ap, sym, subst, length, get_or, List}
use Rattle.std.specs.List.{flat_map}
use Rattle.std.specs.List.Sorted.{IsPermutation}
use Rattle.hash_ring.specs.declared.point.Point.{Point}
use Rattle.hash_ring.specs.Ring.{RingValue, new_silos, silo_points}
use Rattle.hash_ring.proofs.Order.{point_cmp_total, point_cmp_exact}
use Rattle.hash_ring.proofs.Sorts.{sorted_is_inserted}
use Rattle.hash_ring.proofs.PointsOfViews.{naming_cmp_total, new_points-rising}
use Rattle.hash_ring.proofs.NewPoints.{new_in, new_in_new, new_in_other, new_in_all, new_in_end, some_new}
use Rattle.hash_ring.proofs.advance.new_points.Goals as goal
use Rattle.hash_ring.proofs.advance.new_points.Goals.{then-is_new+in_ok-push_points, else-is_new}

pub loop-row-preserved : goal.loop-row-preserved
loop-row-preserved c =
    elim c.if-is_new.branch [
      | then-is_new+in_ok-push_points w ↦
          new_in_new c.args.places.now c.args.points.now c.rows-row-items.result.now c.loop-row.row-index c.row-item.result
          c.loop-row-test.true c.row-item.is
          (sym c.is_new.ensures ∙ w.if-is_new.true) c.loop-row.new.items c.if-is_new.new.items c.loop-row.invariant
          (ap (λ v. v.items) w.new-is ∙ w.in_ok-push_points.ensures)
      | else-is_new w ↦
          new_in_other c.args.places.now c.args.points.now c.rows-row-items.result.now c.loop-row.row-index c.row-item.result
          c.loop-row-test.true c.row-item.is
          (sym c.is_new.ensures ∙ w.if-is_new.false) c.loop-row.new.items c.if-is_new.new.items c.loop-row.invariant
          (ap (λ v. v.items) w.new-is)
    ]

pub returns-clause-new : goal.returns-clause-new
returns-clause-new c =
    let ring : RingValue = record { version = 0; points = c.args.points.now } in
    let all = flat_map (silo_points c.args.places.now) (new_silos ring c.args.view.now) in
    sorted_is_inserted point_cmp_total point_cmp_exact naming_cmp_total all c.sort_unstable.new.self.items
    (new_points-rising ring c.args.view.now c.args.places.now c.in_order.ensures)
    (subst (λ (l : List Point). IsPermutation l c.sort_unstable.new.self.items)
    (c.loop-row.invariant
    ∙ new_in_end c.args.places.now c.args.points.now c.rows-row-items.result.now c.loop-row.row-index c.loop-row-test.false
    ∙ ap (λ rows. new_in c.args.places.now c.args.points.now rows) c.rows-row-items.ensures
    ∙ new_in_all c.args.places.now ring c.args.view.now)
    c.sort_unstable.ensures.permutation)
    c.sort_unstable.ensures.sorted

pub returns-in_err-push_points-clause-succeeds : goal.returns-in_err-push_points-clause-succeeds
returns-in_err-push_points-clause-succeeds c = λ none.
    let ring : RingValue = record { version = 0; points = c.args.points.now } in
    let rows = c.rows-row-items.ensures in
    absurd (some_new ring c.args.view.now c.loop-row.row-index c.row-item.result
    (subst (λ l. c.loop-row.row-index < length l) rows c.loop-row-test.true)
    (subst (λ l. c.row-item.result ≡ get_or l c.loop-row.row-index c.row-item.result) rows c.row-item.is)
    (sym c.is_new.ensures ∙ c.if-is_new.true) none)
