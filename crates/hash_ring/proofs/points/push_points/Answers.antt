use Rattle.std.proofs.Common.{ℕ, ◌∙◌, ap, sym, ◌++◌, ◌∷◌, [], ◌<◌, append_assoc, take, length, get_or, arith}
use Rattle.std.proofs.lemmas.List.{get_or_default}
use Rattle.hash_ring.specs.Ring.{points_at}
use Rattle.hash_ring.specs.declared.point.Point.{Point}
use Rattle.hash_ring.proofs.PointsOfViews.{points_at_more}
use Rattle.hash_ring.proofs.points.push_points.Goals as goal

pub loop-index-preserved : goal.loop-index-preserved
loop-index-preserved c =
    let within : c.loop-index.index < length c.in-Some.list.now = omega arith in
    let next : ℕ = get_or c.in-Some.list.now c.loop-index.index 0 in
    let point : Point = record { place = next; silo = c.args.silo.now; index = c.loop-index.index } in
    c.in_ok-push.ensures.items
    ∙ ap (λ l. l ++ point ∷ []) c.loop-index.invariant
    ∙ append_assoc c.args.points.now.items (points_at c.args.silo.now (take c.loop-index.index c.in-Some.list.now)) (point ∷ [])
    ∙ ap (λ l. c.args.points.now.items ++ l) (sym (points_at_more c.args.silo.now c.loop-index.index next c.in-Some.list.now within
    (get_or_default c.in-Some.list.now c.loop-index.index 0 next within)))
