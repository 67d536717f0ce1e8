use Rattle.std.proofs.Common.{◌∙◌, ap, sym}
use Rattle.hash_ring.proofs.PointsOfViews.{points_in, points_in_active, points_in_other, points_in_all}
use Rattle.hash_ring.proofs.points.points_of.Goals as goal
use Rattle.hash_ring.proofs.points.points_of.Goals.{then-is_active+in_ok-push_points, else-is_active}

pub loop-silo-preserved : goal.loop-silo-preserved
loop-silo-preserved c =
    elim c.if-is_active.branch [
      | then-is_active+in_ok-push_points w ↦
          points_in_active c.args.places.now c.rows-silo-items.result.now c.loop-silo.silo-index c.loop-silo-item.result
          c.loop-silo-test.true c.loop-silo-item.is
          (sym c.is_active.ensures ∙ w.if-is_active.true) c.loop-silo.points.items c.if-is_active.points.items c.loop-silo.invariant
          (ap (λ v. v.items) w.points-is ∙ w.in_ok-push_points.ensures)
      | else-is_active w ↦
          points_in_other c.args.places.now c.rows-silo-items.result.now c.loop-silo.silo-index c.loop-silo-item.result
          c.loop-silo-test.true c.loop-silo-item.is
          (sym c.is_active.ensures ∙ w.if-is_active.false) c.loop-silo.points.items c.if-is_active.points.items c.loop-silo.invariant
          (ap (λ v. v.items) w.points-is)
    ]

pub returns : goal.returns
returns c =
    c.loop-silo.invariant
    ∙ points_in_all c.args.places.now c.rows-silo-items.result.now c.loop-silo.silo-index c.loop-silo-test.false
    ∙ ap (λ rows. points_in c.args.places.now rows) c.rows-silo-items.ensures
