use Rattle.std.proofs.Common.{◌≡◌, ◌∙◌, ap, sym, subst, List, ℕ}
use Rattle.membership_view.specs.View.{ViewValue}
use Rattle.hash_ring.specs.declared.point.Point.{Point}
use Rattle.hash_ring.specs.Ring.{RingValue, IsRingBy, new_silos, sorted_ring}
use Rattle.hash_ring.specs.Search.{HasWholeSilos}
use Rattle.hash_ring.proofs.WholeSilos.{ring_has_whole}
use Rattle.hash_ring.proofs.PlacesKept.{IsRing-anew}
use Rattle.hash_ring.proofs.Advanced.{changed_is_ring, added_where_none_is_new}
use Rattle.hash_ring.proofs.ring.Ring.advance.Goals as goal

abbrev ring_with : ℕ → List Point → RingValue
ring_with version points = record { version = version; points = points }

-- the points alone tell which silos are new
same_new : (ring : RingValue) (points : List Point) (view : ViewValue) → points ≡ ring.points
    → new_silos (record { version = 0; points = points }) view ≡ new_silos ring view
same_new ring points view same = ap (λ l. new_silos (record { version = 0; points = l }) view) same

pub returns-then-not-has_active_of-clause-succeeds : goal.returns-then-not-has_active_of-clause-succeeds
returns-then-not-has_active_of-clause-succeeds c = λ next none.
    sym (sym c.has_active_of.ensures ∙ c.if-not-has_active_of.true)
    ∙ added_where_none_is_new c.args.self.now c.args.places.now c.requires c.args.view.now c.in_order.ensures none

pub change-requires : goal.change-requires
change-requires c =
    subst (λ (l : List Point). HasWholeSilos c.args.places.now l) (sym (ap (λ (r : RingValue). r.points) c.self.view_is ∙ c.requires.1))
    (ring_has_whole c.requires.0 c.args.places.now)

pub invariant_of-self : goal.invariant_of-self
invariant_of-self c =
    let old : RingValue = record { version = 0; points = c.self.inside.points.items } in
    let was : IsRingBy old c.args.places.now = (c.requires.0, ap (λ (r : RingValue). r.points) c.self.view_is ∙ c.requires.1) in
    IsRing-anew c.args.view.now c.args.places.now c.whole.ensures c.version-self-inside.result c.change.new.points.items
    (c.in-Ok.ensures.changed ∙ changed_is_ring old c.args.places.now was c.args.view.now c.in_order.ensures)

pub returns-in-Ok-clause-advanced : goal.returns-in-Ok-clause-advanced
returns-in-Ok-clause-advanced c =
    let old : RingValue = record { version = 0; points = c.self.inside.points.items } in
    let was : IsRingBy old c.args.places.now = (c.requires.0, ap (λ (r : RingValue). r.points) c.self.view_is ∙ c.requires.1) in
    let points : c.change.new.points.items ≡ sorted_ring c.args.view.now c.args.places.now = c.in-Ok.ensures.changed ∙ changed_is_ring old c.args.places.now was c.args.view.now c.in_order.ensures in
    let version = c.version-self-inside.ensures in
    λ i. ring_with (version i) (points i)

pub returns-in-Err-clause-succeeds : goal.returns-in-Err-clause-succeeds
returns-in-Err-clause-succeeds c = λ next none.
    c.in-Err.ensures.succeeds (same_new c.args.self.now c.self.inside.points.items c.args.view.now
    (ap (λ (r : RingValue). r.points) c.self.view_is) ∙ none)
