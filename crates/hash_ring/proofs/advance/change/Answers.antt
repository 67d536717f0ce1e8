use Rattle.std.proofs.Common.{◌≡◌, ◌∙◌, ap, sym, subst, List, [], true, false, arith}
use Rattle.std.proofs.lemmas.Bool.Decides.{nat_tests}
use Rattle.std.proofs.lemmas.List.{nil_from_length}
use Rattle.std.specs.List.{filter, flat_map}
use Rattle.std.specs.List.Sorted.{IsStrictlySortedBy}
use Rattle.hash_ring.specs.declared.point.Point.{Point}
use Rattle.hash_ring.specs.Point.{point_cmp}
use Rattle.hash_ring.specs.Places.{PlacesValue}
use Rattle.hash_ring.specs.Ring.{is_active_in, new_silos, silo_points, sorted_points}
use Rattle.hash_ring.proofs.Order.{point_cmp_total, point_cmp_exact}
use Rattle.hash_ring.proofs.Merges.{sorted_first_from}
use Rattle.hash_ring.proofs.StrictOrder.{Rising-inserted, sorted-from_Rising}
use Rattle.membership_view.specs.View.{ViewValue}
use Rattle.hash_ring.proofs.WholeSilos.{some_silos}
use Rattle.hash_ring.proofs.advance.change.Goals as goal
use Rattle.hash_ring.proofs.advance.change.Goals.{then-not-is_empty, else-not-is_empty}

module _ (places : PlacesValue) (view : ViewValue) where
  -- the points of new silos, and those in order
  abbrev all_new : List Point → List Point
  all_new points = flat_map (silo_points places) (new_silos (record { version = 0; points = points }) view)

  abbrev in_turn : List Point → List Point
  in_turn points = sorted_points (all_new points)

pub merge-requires-clause-in_order : goal.merge-requires-clause-in_order
merge-requires-clause-in_order c =
    subst (λ (l : List Point). IsStrictlySortedBy point_cmp l) (sym (c.deref-then-not-is_empty.ensures.value ∙ c.take_out.ensures.kept))
    (some_silos c.args.places.now c.args.points.now.items (is_active_in c.args.view.now) c.requires).in_order

pub merge-requires-clause-others : goal.merge-requires-clause-others
merge-requires-clause-others c =
    subst (λ (l : List Point). IsStrictlySortedBy point_cmp l) (sym (c.deref-then-not-is_empty-2.ensures.value ∙ c.in_ok-new.ensures.new))
    (sorted-from_Rising point_cmp (in_turn c.args.places.now c.args.view.now c.deref.result.now)
    (Rising-inserted point_cmp_total (all_new c.args.places.now c.args.view.now c.deref.result.now) [] tt))

pub returns-in_err-merged-clause-succeeds : goal.returns-in_err-merged-clause-succeeds
returns-in_err-merged-clause-succeeds c = λ none.
    let places = c.args.places.now in
    let view = c.args.view.now in
    let empty : c.deref-3.result.now ≡ [] =
    c.deref-3.ensures.value ∙ c.in_ok-new.ensures.new ∙ ap (λ (l : List Point). in_turn places view l) c.deref.ensures.value
    ∙ ap (λ silos. sorted_points (flat_map (silo_points places) silos)) none in
    let no : false ≡ true = c.in_err-merged.ensures.succeeds (c.room_for.ensures.none empty) in cc

pub returns-clause-changed : goal.returns-clause-changed
returns-clause-changed c =
    let places = c.args.places.now in
    let view = c.args.view.now in
    let kept = filter (λ (p : Point). is_active_in view p.silo) c.args.points.now.items in
    let in_order = (some_silos places c.args.points.now.items (is_active_in view) c.requires).in_order in
    let new = c.in_ok-new.ensures.new ∙ ap (λ (l : List Point). in_turn places view l) c.deref.ensures.value in
    elim c.if-not-is_empty.branch [
      | then-not-is_empty w ↦
          ap (λ v. v.items) w.points-is ∙ w.merge.ensures
          ∙ sorted_first_from point_cmp_total point_cmp_exact kept (all_new places view c.args.points.now.items)
          w.deref-then-not-is_empty.result.now w.deref-then-not-is_empty-2.result.now in_order
          (w.deref-then-not-is_empty.ensures.value ∙ c.take_out.ensures.kept) (w.deref-then-not-is_empty-2.ensures.value ∙ new)
      | else-not-is_empty w ↦
          ap (λ v. v.items) w.points-is
          ∙ sorted_first_from point_cmp_total point_cmp_exact kept (all_new places view c.args.points.now.items) c.take_out.new.points.items
          [] in_order
          c.take_out.ensures.kept (sym (nil_from_length c.in_ok-new.new.items
          (let none = w.if-not-is_empty.ensures in grind (arith, nat_tests))) ∙ new)
    ]
