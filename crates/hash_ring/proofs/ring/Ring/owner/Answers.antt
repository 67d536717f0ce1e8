use Rattle.std.proofs.Common.{◌≡◌, ◌<◌, ◌∙◌, ap, sym, subst, arith, List}
use Rattle.std.specs.List.{All}
use Rattle.ring_range.specs.Range.{circle}
use Rattle.hash_ring.specs.declared.point.Point.{Point}
use Rattle.hash_ring.specs.Point.{IsOnCircle}
use Rattle.hash_ring.specs.Owner.{owner_of}
use Rattle.hash_ring.specs.Ring.{RingValue}
use Rattle.hash_ring.specs.Search.{PlacesRise}
use Rattle.hash_ring.proofs.Ownership.{owner_exact}
use Rattle.hash_ring.proofs.OwnerSearch.{places_rise}
use Rattle.hash_ring.proofs.ring.Ring.owner.Goals as goal

pub owner_in-requires-clause-rise : goal.owner_in-requires-clause-rise
owner_in-requires-clause-rise c =
    subst (λ (l : List Point). PlacesRise l) (sym c.deref.ensures.value) (places_rise c.self.inside.points.items c.self.invariant.in_order)

pub returns-clause-exact : goal.returns-clause-exact
returns-clause-exact c =
    let small : c.args.hash < circle = omega arith in
    let on_circle : All IsOnCircle c.deref.result.now = subst (λ (l : List Point). All IsOnCircle l) (sym c.deref.ensures.value) c.self.invariant.on_circle in
    let same : c.deref.result.now ≡ c.args.self.now.points = c.deref.ensures.value ∙ ap (λ (r : RingValue). r.points) c.self.view_is in
    owner_exact c.deref.result.now c.args.hash c.owner_in.result small on_circle c.owner_in.ensures.owner c.owner_in.ensures.none
    ∙ ap (λ l. owner_of l c.args.hash) same
