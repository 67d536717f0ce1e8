use Rattle.std.proofs.Common.{◌≡◌, ◌∙◌, ap, sym, subst, List}
use Rattle.std.specs.List.{All}
use Rattle.std.specs.List.Sorted.{IsStrictlySortedBy}
use Rattle.std.specs.Result.{IfOk}
use Rattle.hash_ring.specs.declared.point.Point.{Point}
use Rattle.hash_ring.specs.Point.{point_cmp, IsOnCircle}
use Rattle.hash_ring.specs.Ranges.{CoverOwned}
use Rattle.hash_ring.specs.Ring.{RingValue}
use Rattle.hash_ring.specs.Search.{PlacesRise}
use Rattle.hash_ring.proofs.OwnRanges.{cover_if}
use Rattle.hash_ring.proofs.OwnerSearch.{places_rise}
use Rattle.hash_ring.proofs.ring.Ring.ranges_of.Goals as goal

pub ranges_in-requires-clause-rise : goal.ranges_in-requires-clause-rise
ranges_in-requires-clause-rise c =
    subst (λ (l : List Point). PlacesRise l) (sym c.deref.ensures.value) (places_rise c.self.inside.points.items c.self.invariant.in_order)

pub returns-clause-covers : goal.returns-clause-covers
returns-clause-covers c =
    let points : List Point = c.deref.result.now in
    let sorted : IsStrictlySortedBy point_cmp points = subst (λ (l : List Point). IsStrictlySortedBy point_cmp l) (sym c.deref.ensures.value) c.self.invariant.in_order in
    let on_circle : All IsOnCircle points = subst (λ (l : List Point). All IsOnCircle l) (sym c.deref.ensures.value) c.self.invariant.on_circle in
    let same : points ≡ c.args.self.now.points = c.deref.ensures.value ∙ ap (λ (r : RingValue). r.points) c.self.view_is in
    subst (λ (l : List Point). IfOk c.ranges_in.result (λ ranges. CoverOwned l c.args.silo.now ranges.items)) same
    (cover_if c.ranges_in.result (λ ranges. ranges.items) points c.args.silo.now sorted on_circle c.ranges_in.ensures)
