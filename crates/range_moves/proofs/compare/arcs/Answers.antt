-- The walk begins at the lowest place, goes on to each next one, and ends with the arc round to the first.
use Rattle.std.proofs.Common.{◌≡◌, ◌∙◌, Some, None, List, sym, subst}
use Rattle.hash_ring.specs.Point.{point_cmp}
use Rattle.hash_ring.specs.Ring.{RingValue, IsRing}
use Rattle.hash_ring.proofs.StrictOrder.{Rising-from_sorted}
use Rattle.range_moves.specs.declared.arc.RingArc.{RingArc}
use Rattle.range_moves.specs.Arcs.{arcs_of, AreArcs}
use Rattle.range_moves.specs.Walk.{nearer_place, place_ahead}
use Rattle.range_moves.proofs.Between.{arcs_whole}
use Rattle.range_moves.proofs.Underway.{AreRings, underway_first}
use Rattle.range_moves.proofs.NextPlace.{underway_next, underway_end, next_beyond, fewer}
use Rattle.range_moves.proofs.compare.arcs.Goals as goal

are_rings : (old new : RingValue) → IsRing old → IsRing new → AreRings old.points new.points
are_rings old new o n = record {
  old_rising = Rising-from_sorted point_cmp old.points o.in_order;
  new_rising = Rising-from_sorted point_cmp new.points n.in_order;
  old_on_circle = o.on_circle;
  new_on_circle = n.on_circle;
}

pub loop-next-init : goal.loop-next-init
loop-next-init c =
    let rings = are_rings c.args.old.now c.args.new.now c.whole.ensures c.whole-2.ensures in
    let e : nearer_place (place_ahead c.args.old.now.points) (place_ahead c.args.new.now.points) ≡ Some c.in-Some.first = cc in
    rw (
      c.at-old.ensures.owner,
      c.at-new.ensures.owner,
      c.at-old.ensures.ahead,
      c.at-new.ensures.ahead,
      c.in_ok-arcs.ensures.items,
      c.before_first-old.ensures.ahead,
      c.before_first-new.ensures.ahead,
    )
    (underway_first c.args.old.now.points c.args.new.now.points rings c.in-Some.first c.before_first-old.result.owner
    c.before_first-new.result.owner c.before_first-old.ensures.owner c.before_first-new.ensures.owner e)

pub up_to-requires : goal.up_to-requires
up_to-requires c =
    let rings = are_rings c.args.old.now c.args.new.now c.whole.ensures c.whole-2.ensures in
    next_beyond _ _ rings _ _ _ _ _ _ _ c.loop-next.invariant c.in-Some-next_place.next
    (sym c.next_place-in-loop-next.ensures ∙ c.in-Some-next_place.is)

pub loop-next-smaller : goal.loop-next-smaller
loop-next-smaller c =
    let less = fewer c.loop-next.old.ahead.now c.loop-next.new.ahead.now c.in-Some-next_place.next (sym c.next_place-in-loop-next.ensures ∙ c.in-Some-next_place.is) in
    rw (c.at-old-in-Some-next_place.ensures.ahead, c.at-new-in-Some-next_place.ensures.ahead) less

pub loop-next-preserved : goal.loop-next-preserved
loop-next-preserved c =
    let rings = are_rings c.args.old.now c.args.new.now c.whole.ensures c.whole-2.ensures in
    let e : nearer_place (place_ahead c.loop-next.old.ahead.now) (place_ahead c.loop-next.new.ahead.now) ≡ Some c.in-Some-next_place.next = sym c.next_place-in-loop-next.ensures ∙ c.in-Some-next_place.is in
    rw (
      c.at-old-in-Some-next_place.ensures.owner,
      c.at-new-in-Some-next_place.ensures.owner,
      c.at-old-in-Some-next_place.ensures.ahead,
      c.at-new-in-Some-next_place.ensures.ahead,
      c.in_ok-push.ensures.items,
      c.arc.ensures,
      c.up_to.ensures,
    )
    (underway_next _ _ rings _ _ _ _ _ _ _ c.loop-next.invariant c.in-Some-next_place.next e)

pub round_to-requires : goal.round_to-requires
round_to-requires c = c.loop-next.invariant.first_upto

pub returns-clause-exact : goal.returns-clause-exact
returns-clause-exact c =
    let rings = are_rings c.args.old.now c.args.new.now c.whole.ensures c.whole-2.ensures in
    let none : nearer_place (place_ahead c.loop-next.old.ahead.now) (place_ahead c.loop-next.new.ahead.now) ≡ None = sym c.next_place-in-loop-next.ensures ∙ c.in_default-next_place.is in
    rw (c.in_ok-push-2.ensures.items, c.arc-2.ensures, c.round_to.ensures) (underway_end _ _ rings _ _ _ _ _ _ _ c.loop-next.invariant none)

pub returns-clause-whole : goal.returns-clause-whole
returns-clause-whole c =
    let exact : c.push-2.new.self.items ≡ arcs_of c.args.old.now.points c.args.new.now.points = returns-clause-exact c in
    subst (λ (arcs : List RingArc). AreArcs c.args.old.now.points c.args.new.now.points arcs) (sym exact)
    (arcs_whole c.args.old.now.points c.args.new.now.points c.whole.ensures.on_circle c.whole-2.ensures.on_circle)
